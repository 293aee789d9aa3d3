use Rattle.otlp_read.specs.Tallies.{tally}
use Rattle.otlp_read.proofs.WalkLemmas.{each_point_more, each_point_done}
use Rattle.otlp_read.proofs.metrics.points.Goals as goal

pub loop-value-preserved : goal.loop-value-preserved
loop-value-preserved g c =
    each_point_more (g.S.PointStream.reads c.args.stream) c.args.points.now c.loop-value.value-index
    c.value-item.result _ (tally c.loop-value.reader.out) _ _ c.loop-value-test.true
    c.value-item.is c.in_ok-point.ensures c.in_ok-add_point.ensures c.loop-value.invariant

pub returns : goal.returns
returns g c =
    each_point_done (g.S.PointStream.reads c.args.stream) c.args.points.now c.loop-value.value-index
    (tally c.loop-value.reader.out) _ c.loop-value-test.false c.loop-value.invariant
