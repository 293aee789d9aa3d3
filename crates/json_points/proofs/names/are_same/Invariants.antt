use Rattle.std.proofs.Common.{◌≡◌, ◌≤◌, length, drop}
use Rattle.std.specs.Str.{bytes_eq}
use Rattle.json_points.proofs.names.are_same.Given as goal

abbrev pub invariant-loop-left : goal.invariant-loop-left
invariant-loop-left l =
    (l.same ≡ bytes_eq (drop l.left l.mine) (drop l.left l.its)) × (l.left ≤ length l.its)

abbrev pub decreases-loop-left : goal.decreases-loop-left
decreases-loop-left l = l.left
