use Rattle.otlp_read.specs.Tallies.{tally}
use Rattle.otlp_protobuf.proofs.ListLemmas.{over}
use Rattle.otlp_protobuf.proofs.LoopLemmas.{point_more, point_done}
use Rattle.otlp_protobuf.proofs.metrics.points.Goals as goal

pub loop-content-preserved : goal.loop-content-preserved
loop-content-preserved g c =
    point_more (g.S.PointStream.reads c.args.stream) g.S.PointStream.shows _ c.in-Some.content.now
    _ _ (tally c.loop-content.reader.out) _ _ c.in-Some.ensures c.in_ok-point.ensures
    c.in_ok-add_point.ensures c.loop-content.invariant

pub returns : goal.returns
returns g c =
    point_done (g.S.PointStream.reads c.args.stream) g.S.PointStream.shows
    _ (tally c.loop-content.reader.out)
    _ (over _ _ c.next_content.result c.next_content.ensures c.in_default.is)
    c.loop-content.invariant
