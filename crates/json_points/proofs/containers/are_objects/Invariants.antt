use Rattle.std.proofs.Common.{◌≡◌, List, length}
use Rattle.std.specs.List.{list_all}
use Rattle.serde_json.specs.Data.{Data}
use Rattle.otlp_read.specs.Containers.{is_object}
use Rattle.json_points.specs.inner.Nodes.{AreItems}
use Rattle.json_points.proofs.containers.are_objects.Given as goal

abbrev pub invariant-loop-node : goal.invariant-loop-node
invariant-loop-node l =
    (ds : List Data) → AreItems l.fn.items ds
    → (rest : List Data) × AreItems l.rest rest
    × (list_all is_object rest ≡ list_all is_object ds)

abbrev pub decreases-loop-node : goal.decreases-loop-node
decreases-loop-node l = length l.rest
