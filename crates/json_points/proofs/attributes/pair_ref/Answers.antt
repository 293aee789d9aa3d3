use Rattle.std.proofs.Common.{sym, ◌∙◌}
use Rattle.json_points.specs.inner.Nodes.{data_at}
use Rattle.json_points.proofs.MemberLemmas.{pair_there}
use Rattle.json_points.proofs.attributes.pair_ref.Goals as goal

pub returns : goal.returns
returns c =
    let f = c.in-Some.field-0.first in
    let s = c.in-Some.field-0.second in
    pair_there (data_at c.args.node.now) (data_at f.value) (data_at s.value) f.name.now s.name.now
    _ _ _ c.in-Some.ensures (sym c.is_named.ensures ∙ c.if-not-is_named.false)
    (sym c.is_named-2.ensures ∙ c.if-not-is_named-2.false) c.present.ensures
    c.in_ok-key.ensures c.in_ok-value.ensures
