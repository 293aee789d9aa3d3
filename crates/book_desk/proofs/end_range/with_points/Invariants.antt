use Rattle.std.proofs.Common.{◌≡◌, fold, take}
use Rattle.book_desk.specs.inner.EndRanges.{with_point}
use Rattle.book_desk.proofs.end_range.with_points.Given as goal

abbrev pub invariant-loop-point : goal.invariant-loop-point
invariant-loop-point l = l.all ≡ fold with_point l.fn.range (take l.point-index l.points)
