use Rattle.std.proofs.Common.{ap, sym, ◌∙◌}
use Rattle.std.specs.Prelude.{is_some}
use Rattle.json_points.proofs.NodeLemmas.{object_found}
use Rattle.json_points.proofs.node.Node.is_object.Goals as goal

pub returns-in-Some : goal.returns-in-Some
returns-in-Some c =
    rw (← c.self.view_is) (sym (ap (λ r. is_some r) c.in-Some.is)
    ∙ object_found _ c.members.result c.self.invariant c.members.ensures)

pub returns-in-None : goal.returns-in-None
returns-in-None c =
    rw (← c.self.view_is) (sym (ap (λ r. is_some r) c.in-None.is)
    ∙ object_found _ c.members.result c.self.invariant c.members.ensures)
