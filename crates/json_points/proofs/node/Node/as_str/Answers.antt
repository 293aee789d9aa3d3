use Rattle.std.proofs.Common.{◌∙◌}
use Rattle.json_points.proofs.NodeLemmas.{same, str_same}
use Rattle.json_points.proofs.node.Node.as_str.Goals as goal

pub returns : goal.returns
returns c =
    let node = c.self.invariant in
    rw (← c.self.view_is) (c.as_str.ensures node.json node.begins
    ∙ str_same node.json _ (same node.json _ node.says))
