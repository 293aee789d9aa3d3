use Rattle.std.proofs.Common.{◌≡◌, List, length}
use Rattle.serde_json.specs.Data.{Data}
use Rattle.otlp_read.specs.Tallies.{tally, each_point}
use Rattle.json_points.specs.inner.Nodes.{AreItems}
use Rattle.json_points.proofs.metrics.points_of.Given as goal

abbrev pub invariant-loop-node : goal.invariant-loop-node
invariant-loop-node g l =
    (ds : List Data) → AreItems l.fn.nodes ds
    → (rest : List Data) × AreItems l.rest rest
    × (each_point (g.S.PointStream.reads l.stream) rest (tally l.reader.out)
    ≡ each_point (g.S.PointStream.reads l.stream) ds (tally l.fn.reader.out))

abbrev pub decreases-loop-node : goal.decreases-loop-node
decreases-loop-node g l = length l.rest
