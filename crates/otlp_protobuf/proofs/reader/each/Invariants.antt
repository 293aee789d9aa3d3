use Rattle.std.proofs.Common.{◌≡◌, length, map}
use Rattle.otlp_read.specs.Reading.{each}
use Rattle.otlp_read.specs.Tallies.{tally}
use Rattle.otlp_protobuf.specs.Wire.{fields}
use Rattle.otlp_protobuf.specs.Fields.{contents}
use Rattle.otlp_protobuf.specs.inner.Views.{fields_data}
use Rattle.otlp_protobuf.proofs.reader.each.Given as goal

abbrev pub invariant-loop-content : goal.invariant-loop-content
invariant-loop-content g l =
    each (g.O.Object.adds l.above) (map g.O.Object.shows (contents l.number (fields_data l.rest)))
    (tally l.reader.out)
    ≡ each (g.O.Object.adds l.above) (map g.O.Object.shows (contents l.number (fields l.bytes)))
    (tally l.fn.reader.out)

abbrev pub decreases-loop-content : goal.decreases-loop-content
decreases-loop-content g l = length (contents l.number (fields_data l.rest))
