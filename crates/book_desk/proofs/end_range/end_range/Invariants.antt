use Rattle.std.proofs.Common.{◌≡◌, fold, take, None}
use Rattle.book_desk.specs.inner.EndRanges.{with_part}
use Rattle.book_desk.proofs.end_range.end_range.Given as goal

abbrev pub invariant-loop-part : goal.invariant-loop-part
invariant-loop-part l = l.all ≡ fold with_part None (take l.part-index l.parts)
