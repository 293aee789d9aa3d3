use Rattle.std.proofs.Common.{◌∙◌}
use Rattle.json_points.proofs.NodeLemmas.{same, bool_same}
use Rattle.json_points.proofs.node.Node.as_bool.Goals as goal

pub returns : goal.returns
returns c =
    let node = c.self.invariant in
    rw (← c.self.view_is) (c.as_bool.ensures node.json node.begins
    ∙ bool_same node.json _ (same node.json _ node.says))
