use Rattle.std.proofs.Common.{◌≡◌, drop, map}
use Rattle.serde_json.specs.View.{view}
use Rattle.otlp_read.specs.Tallies.{tally, each_point}
use Rattle.otlp_read.proofs.metrics.points.Given as goal

abbrev pub invariant-loop-value : goal.invariant-loop-value
invariant-loop-value g l = each_point (g.S.PointStream.reads l.stream)
    (map view (drop l.value-index l.points)) (tally l.reader.out)
    ≡ each_point (g.S.PointStream.reads l.stream) (map view l.points) (tally l.fn.reader.out)
