use Rattle.otlp_read.specs.Tallies.{tally}
use Rattle.otlp_protobuf.proofs.ListLemmas.{over}
use Rattle.otlp_protobuf.proofs.LoopLemmas.{each_more, each_done}
use Rattle.otlp_protobuf.proofs.reader.each.Goals as goal

pub loop-content-preserved : goal.loop-content-preserved
loop-content-preserved g c =
    each_more (g.O.Object.adds c.args.above) g.O.Object.shows _ c.in-Some.content.now
    _ (tally c.loop-content.reader.out) _ _ c.in-Some.ensures c.in_ok-read.ensures
    c.loop-content.invariant

pub returns : goal.returns
returns g c =
    each_done (g.O.Object.adds c.args.above) g.O.Object.shows _ (tally c.loop-content.reader.out)
    _ (over _ _ c.next_content.result c.next_content.ensures c.in_default.is)
    c.loop-content.invariant
