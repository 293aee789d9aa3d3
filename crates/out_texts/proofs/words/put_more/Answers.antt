use Rattle.out_texts.proofs.Putting.{put_more}
use Rattle.out_texts.proofs.words.put_more.Goals as goal

pub loop-item-preserved : goal.loop-item-preserved
loop-item-preserved g c =
    put_more c.args.mark g.T.HasText.text_of c.args.more.now c.loop-item.item-index
    c.item-item.result _ c.args.out.now.items c.loop-item.out.items c.push.new.self.items _
    c.loop-item-test.true c.item-item.is c.in_ok-push.ensures.items c.in_ok-put.ensures
    c.loop-item.invariant
