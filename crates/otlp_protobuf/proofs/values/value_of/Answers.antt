use Rattle.std.proofs.Common.{ap, sym, ◌∙◌}
use Rattle.otlp_protobuf.specs.inner.PairViews.{is_list}
use Rattle.otlp_protobuf.proofs.ValueLemmas.{listed_value, single_of, ok_along}
use Rattle.otlp_protobuf.proofs.values.value_of.Goals as goal

pub returns-in_ok-list : goal.returns-in_ok-list
returns-in_ok-list c =
    ok_along c.many_of.result _ _
    (listed_value c.args.bytes.now c.bytes_or_none.result.now
    (ap is_list (sym c.chosen-found.ensures) ∙ sym c.is_list.ensures ∙ c.if-is_list.true)
    (c.bytes_or_none.ensures ∙ c.in_ok-list.ensures))
    c.many_of.ensures

pub returns-else-is_list : goal.returns-else-is_list
returns-else-is_list c =
    ok_along c.one_of.result _ _
    (single_of c.args.bytes.now _ c.chosen-found.ensures
    (sym c.is_list.ensures ∙ c.if-is_list.false))
    c.one_of.ensures
