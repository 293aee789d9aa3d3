use Rattle.std.proofs.Common.{ap, sym, ◌∙◌}
use Rattle.std.specs.Prelude.{is_some}
use Rattle.serde_json.specs.Data.{no_members}
use Rattle.json_points.specs.inner.Nodes.{data_at}
use Rattle.json_points.proofs.NodeLemmas.{members_found, object_found}
use Rattle.json_points.proofs.node.Node.fields.Goals as goal

pub invariant_of-result : goal.invariant_of-result
invariant_of-result c = (
  no_members,
  data_at _,
  members_found _ c.members.result c.in-Some.members
      c.self.invariant c.members.ensures c.in-Some.is,
)

pub returns-in-Some-clause-found : goal.returns-in-Some-clause-found
returns-in-Some-clause-found c =
    rw (← c.self.view_is) (members_found _ c.members.result c.in-Some.members c.self.invariant
    c.members.ensures c.in-Some.is)

pub returns-in-None-clause-none : goal.returns-in-None-clause-none
returns-in-None-clause-none c _ =
    rw (← c.self.view_is) (sym (object_found _ c.members.result c.self.invariant c.members.ensures)
    ∙ ap (λ r. is_some r) c.in-None.is)
