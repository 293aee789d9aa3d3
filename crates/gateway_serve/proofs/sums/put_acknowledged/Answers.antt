use Rattle.std.proofs.Common.{codes}
use Rattle.out_texts.proofs.Putting.{put_two}
use Rattle.gateway_serve.specs.Ended.{acknowledged_text}
use Rattle.gateway_serve.proofs.sums.put_acknowledged.Goals as goal

pub returns : goal.returns
unfolding acknowledged_text
returns c = put_two c.put_total.result c.args.out.now.items (codes " acknowledged ")
    _ _ _ c.in_ok-extend_from_slice.ensures.items c.put_total.ensures
