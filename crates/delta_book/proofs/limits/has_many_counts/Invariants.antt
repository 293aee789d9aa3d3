use Rattle.std.proofs.Common.{◌≡◌, ℕ, List, ◌+◌, ◌≤◌, drop, length, sum}
use Rattle.metric_events.specs.declared.limits.TheConstants.{MAX_COUNT}
use Rattle.delta_book.specs.inner.Batches.{sum_with}
use Rattle.metric_events.specs.declared.accepted.Accepted.{Accepted}
use Rattle.delta_book.specs.Tables.{AreCells}
use Rattle.delta_book.proofs.limits.has_many_counts.Given as goal

abbrev pub invariant-loop-k : goal.invariant-loop-k
invariant-loop-k l = record {
  few : l.total ≤ MAX_COUNT;
  sum : (b : ℕ) (s : List ℕ) (qs : List Accepted) → AreCells l.cells qs
      → length (sum_with b s l.series qs l.batch) ≡ l.n
      → l.total + sum (drop l.k (sum_with b s l.series qs l.batch))
      ≡ sum (drop 3 (sum_with b s l.series qs l.batch));
}
