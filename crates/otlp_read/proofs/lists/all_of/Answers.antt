use Rattle.std.proofs.Common.{sym, ◌∙◌}
use Rattle.otlp_read.proofs.ListLemmas.{all_more, all_stop, all_done}
use Rattle.otlp_read.proofs.lists.all_of.Goals as goal

pub loop-value-preserved : goal.loop-value-preserved
loop-value-preserved g c =
    rw c.in_ok-push.ensures.items (all_more g.T.Element.reads c.args.values.now
    c.loop-value.value-index c.value-item.result c.loop-value.found.items c.in-Some.element
    _ c.loop-value-test.true c.value-item.is (sym c.in_ok-element.ensures ∙ c.in-Some.is)
    c.loop-value.invariant)

pub returns-in_default : goal.returns-in_default
returns-in_default g c =
    sym (all_stop g.T.Element.reads c.args.values.now c.loop-value.value-index c.value-item.result
    c.loop-value.found.items _ c.loop-value-test.true c.value-item.is
    (sym c.in_ok-element.ensures ∙ c.in_default.is) c.loop-value.invariant)

pub returns : goal.returns
returns g c =
    sym (all_done g.T.Element.reads c.args.values.now c.loop-value.value-index
    c.loop-value.found.items _ c.loop-value-test.false c.loop-value.invariant)
