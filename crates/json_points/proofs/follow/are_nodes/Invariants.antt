use Rattle.std.proofs.Common.{◌≡◌, ◌≤◌, List, map, take, length}
use Rattle.serde_json.specs.Data.{Data}
use Rattle.series_id.specs.Sorting.{pair_of as pair_in}
use Rattle.otlp_read.specs.Attributes.{pair_of}
use Rattle.otlp_read.specs.Lists.{all_of}
use Rattle.otlp_read.proofs.ListLemmas.{with_front}
use Rattle.json_points.specs.inner.Nodes.{AreItems}
use Rattle.json_points.proofs.follow.are_nodes.Given as goal

abbrev pub invariant-loop-node : goal.invariant-loop-node
invariant-loop-node l = record {
  pairs : (ds : List Data) → AreItems l.fn.nodes ds
      → (rest : List Data) × AreItems l.rest rest
      × (with_front (map pair_in (take l.count l.its)) (all_of pair_of rest)
      ≡ all_of pair_of ds);
  within : l.count ≤ length l.its;
}

abbrev pub decreases-loop-node : goal.decreases-loop-node
decreases-loop-node l = length l.rest
