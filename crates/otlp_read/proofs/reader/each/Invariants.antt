use Rattle.std.proofs.Common.{◌≡◌, drop, map}
use Rattle.serde_json.specs.View.{view}
use Rattle.otlp_read.specs.Tallies.{tally}
use Rattle.otlp_read.specs.Reading.{each}
use Rattle.otlp_read.proofs.reader.each.Given as goal

abbrev pub invariant-loop-value : goal.invariant-loop-value
invariant-loop-value g l = each (g.O.Object.adds l.above) (map view (drop l.value-index l.values))
    (tally l.reader.out)
    ≡ each (g.O.Object.adds l.above) (map view l.values) (tally l.fn.reader.out)
