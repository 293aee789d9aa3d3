use Rattle.std.proofs.Common.{◌≡◌, Some, None, cond, true, false, ap, sym, ◌∙◌}
use Rattle.json.specs.Find as find
use Rattle.json_points.specs.inner.Nodes.{data_at}
use Rattle.json_points.proofs.NodeLemmas.{same, present_same}
use Rattle.json_points.proofs.node.Node.present.Goals as goal

pub returns-then-is_null : goal.returns-then-is_null
returns-then-is_null c =
    let node = c.self.invariant in
    let is : find.is_null node.json ≡ true =
    sym (c.is_null.ensures node.json node.begins) ∙ c.if-is_null.true in
    rw (← c.self.view_is) (sym (ap (λ b. cond b None (Some (data_at c.self.inside.element))) is)
    ∙ present_same node.json _ (same node.json _ node.says))

pub returns-else-is_null : goal.returns-else-is_null
returns-else-is_null c =
    let node = c.self.invariant in
    let is : find.is_null node.json ≡ false =
    sym (c.is_null.ensures node.json node.begins) ∙ c.if-is_null.false in
    rw (← c.self.view_is) (sym (ap (λ b. cond b None (Some (data_at c.self.inside.element))) is)
    ∙ present_same node.json _ (same node.json _ node.says))
