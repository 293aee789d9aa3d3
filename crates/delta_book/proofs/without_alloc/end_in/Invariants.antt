use Rattle.std.proofs.Common.{◌≡◌, max, drop}
use Rattle.delta_book.specs.inner.Batches.{frontier_in}
use Rattle.delta_book.proofs.without_alloc.end_in.Given as goal

abbrev pub invariant-loop-p : goal.invariant-loop-p
invariant-loop-p l =
    max l.end (frontier_in l.series (drop l.p-index l.points)) ≡ frontier_in l.series l.points
