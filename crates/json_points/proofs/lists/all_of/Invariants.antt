use Rattle.std.proofs.Common.{◌≡◌, List, length}
use Rattle.serde_json.specs.Data.{Data}
use Rattle.otlp_read.specs.Lists.{all_of}
use Rattle.otlp_read.proofs.ListLemmas.{with_front}
use Rattle.json_points.specs.inner.Nodes.{AreItems}
use Rattle.json_points.proofs.lists.all_of.Given as goal

abbrev pub invariant-loop-node : goal.invariant-loop-node
invariant-loop-node g l =
    (ds : List Data) → AreItems l.fn.nodes ds
    → (rest : List Data) × AreItems l.rest rest
    × (with_front l.found.items (all_of g.T.Element.reads rest) ≡ all_of g.T.Element.reads ds)

abbrev pub decreases-loop-node : goal.decreases-loop-node
decreases-loop-node g l = length l.rest
