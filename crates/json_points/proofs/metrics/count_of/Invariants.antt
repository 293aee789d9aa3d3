use Rattle.std.proofs.Common.{◌≡◌, ◌+◌, ◌-◌, ◌^◌, ◌<◌, List, length, min}
use Rattle.serde_json.specs.Data.{Data}
use Rattle.json_points.specs.inner.Nodes.{AreItems}
use Rattle.json_points.proofs.metrics.count_of.Given as goal

abbrev pub invariant-loop-found : goal.invariant-loop-found
invariant-loop-found l = record {
  few : l.found < 2 ^ 64;
  same : (ds : List Data) → AreItems l.fn.nodes ds
      → (rest : List Data) × AreItems l.rest rest
      × (min (l.found + length rest) (2 ^ 64 - 1) ≡ min (length ds) (2 ^ 64 - 1));
}

abbrev pub decreases-loop-found : goal.decreases-loop-found
decreases-loop-found l = length l.rest
