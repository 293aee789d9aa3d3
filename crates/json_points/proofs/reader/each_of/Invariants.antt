use Rattle.std.proofs.Common.{◌≡◌, List, length}
use Rattle.serde_json.specs.Data.{Data}
use Rattle.otlp_read.specs.Reading.{each}
use Rattle.otlp_read.specs.Tallies.{tally}
use Rattle.json_points.specs.inner.Nodes.{AreItems}
use Rattle.json_points.proofs.reader.each_of.Given as goal

abbrev pub invariant-loop-node : goal.invariant-loop-node
invariant-loop-node g l =
    (ds : List Data) → AreItems l.fn.nodes ds
    → (rest : List Data) × AreItems l.rest rest
    × (each (g.O.Object.adds l.above) rest (tally l.reader.out)
    ≡ each (g.O.Object.adds l.above) ds (tally l.fn.reader.out))

abbrev pub decreases-loop-node : goal.decreases-loop-node
decreases-loop-node g l = length l.rest
