use Rattle.std.proofs.Common.{ℕ, List, ◌<◌, ◌≤◌}
use Rattle.std.specs.Prelude.{slice_index}
use Rattle.metric_events.specs.Rows.{word_limit}
use Rattle.delta_book.specs.inner.Batches.{sum_with}
use Rattle.metric_events.specs.declared.accepted.Accepted.{Accepted}
use Rattle.delta_book.specs.Tables.{AreCells}
use Rattle.delta_book.proofs.limits.has_large_word.Given as goal

abbrev pub invariant-loop-k : goal.invariant-loop-k
invariant-loop-k l = (b : ℕ) (s : List ℕ) (qs : List Accepted) → AreCells l.cells qs → (j : ℕ)
    → j < l.k → slice_index (sum_with b s l.series qs l.batch) j ≤ word_limit l.series.kind j
