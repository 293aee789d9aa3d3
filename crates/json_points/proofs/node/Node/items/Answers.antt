use Rattle.json_points.proofs.NodeLemmas.{items_found, no_items_found}
use Rattle.json_points.proofs.node.Node.items.Goals as goal

pub invariant_of-result : goal.invariant_of-result
invariant_of-result c =
    let f = items_found _ c.items.result c.in-Some.items c.self.invariant c.items.ensures
    c.in-Some.is in (f.0, f.2)

pub returns-in-Some-clause-found : goal.returns-in-Some-clause-found
returns-in-Some-clause-found c =
    rw (← c.self.view_is) (items_found _ c.items.result c.in-Some.items c.self.invariant
    c.items.ensures c.in-Some.is)

pub returns-in-None-clause-none : goal.returns-in-None-clause-none
returns-in-None-clause-none c _ =
    rw (← c.self.view_is)
    (no_items_found _ c.items.result c.self.invariant c.items.ensures c.in-None.is)
