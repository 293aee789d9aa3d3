use Rattle.out_texts.proofs.Loops.{values_more, values_done}
use Rattle.out_texts.proofs.values.values_of.Goals as goal

pub loop-item-preserved : goal.loop-item-preserved
loop-item-preserved g c = values_more g.T.HasValue.value_of c.args.items.now c.loop-item.item-index
    c.item-item.result c.loop-item.values.items c.in_ok-value.field-0 _ c.loop-item-test.true
    c.item-item.is c.in_ok-push.ensures.items c.in_ok-value.ensures c.loop-item.invariant

pub returns : goal.returns
returns g c = values_done g.T.HasValue.value_of c.args.items.now c.loop-item.item-index
    c.loop-item.values.items c.loop-item.invariant c.loop-item-test.false
