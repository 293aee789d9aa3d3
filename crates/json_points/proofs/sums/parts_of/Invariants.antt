use Rattle.std.proofs.Common.{length}
use Rattle.serde_json.specs.Data.{Members, object}
use Rattle.json_points.specs.inner.Nodes.{AreMembers, data_at}
use Rattle.json_points.specs.inner.SumParts.{HasParts}
use Rattle.json_points.proofs.sums.parts_of.Given as goal

abbrev pub invariant-loop-name : goal.invariant-loop-name
invariant-loop-name l = (before : Members) × AreMembers l.fields before (data_at l.fn.node)
    × HasParts l.parts (object before)

abbrev pub decreases-loop-name : goal.decreases-loop-name
decreases-loop-name l = length l.fields
