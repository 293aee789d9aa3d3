use Rattle.std.proofs.Common.{◌≡◌, length, map}
use Rattle.otlp_read.specs.Tallies.{tally, each_point}
use Rattle.otlp_protobuf.specs.Wire.{fields}
use Rattle.otlp_protobuf.specs.Fields.{contents}
use Rattle.otlp_protobuf.specs.inner.Views.{fields_data}
use Rattle.otlp_protobuf.proofs.metrics.points.Given as goal

abbrev pub invariant-loop-content : goal.invariant-loop-content
invariant-loop-content g l =
    each_point (g.S.PointStream.reads l.stream)
    (map g.S.PointStream.shows (contents 1 (fields_data l.rest))) (tally l.reader.out)
    ≡ each_point (g.S.PointStream.reads l.stream)
    (map g.S.PointStream.shows (contents 1 (fields l.bytes))) (tally l.fn.reader.out)

abbrev pub decreases-loop-content : goal.decreases-loop-content
decreases-loop-content g l = length (contents 1 (fields_data l.rest))
