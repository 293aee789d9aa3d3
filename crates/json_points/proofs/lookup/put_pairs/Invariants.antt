use Rattle.std.proofs.Common.{◌≡◌, ◌≤◌, List, map, take, length}
use Rattle.serde_json.specs.Data.{Data}
use Rattle.otlp_read.specs.Attributes.{pair_of}
use Rattle.otlp_read.specs.Lists.{all_of}
use Rattle.otlp_read.proofs.ListLemmas.{with_front}
use Rattle.json_points.specs.inner.Nodes.{AreItems}
use Rattle.json_points.specs.inner.RefViews.{pair_data}
use Rattle.json_points.proofs.lookup.put_pairs.Given as goal

abbrev pub invariant-loop-node : goal.invariant-loop-node
invariant-loop-node l = record {
  pairs : (ds : List Data) → AreItems l.fn.nodes ds
      → (rest : List Data) × AreItems l.rest rest
      × (with_front (map pair_data (take l.count l.room)) (all_of pair_of rest)
      ≡ all_of pair_of ds);
  within : l.count ≤ length l.room;
  same : length l.room ≡ length l.fn.room;
}

abbrev pub decreases-loop-node : goal.decreases-loop-node
decreases-loop-node l = length l.rest
