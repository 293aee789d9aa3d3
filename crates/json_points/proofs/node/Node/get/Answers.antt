use Rattle.std.proofs.Common.{◌≡◌, Some, None, ap, sym, subst, ◌∙◌}
use Rattle.json.specs.Find as find
use Rattle.json.specs.Find.{Finds}
use Rattle.json_points.proofs.NodeLemmas.{found_is, found_node}
use Rattle.json_points.proofs.node.Node.get.Goals as goal

pub invariant_of-result : goal.invariant_of-result
invariant_of-result c =
    found_node _ c.args.name.now c.in-Some.element c.self.invariant
    (λ j begins. subst (λ r. Finds r (find.get c.args.name.now j)) c.in-Some.is
    (c.get.ensures j begins))

pub returns-in-Some : goal.returns-in-Some
returns-in-Some c =
    rw (← c.self.view_is) (found_is _ c.args.name.now (Some c.in-Some.element) c.self.invariant
    (λ j begins. subst (λ r. Finds r (find.get c.args.name.now j)) c.in-Some.is
    (c.get.ensures j begins)))

pub returns-in-None : goal.returns-in-None
returns-in-None c =
    rw (← c.self.view_is) (found_is _ c.args.name.now None c.self.invariant
    (λ j begins. subst (λ r. Finds r (find.get c.args.name.now j)) c.in-None.is
    (c.get.ensures j begins)))
