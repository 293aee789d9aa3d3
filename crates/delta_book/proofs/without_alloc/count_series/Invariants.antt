use Rattle.std.proofs.Common.{◌≡◌, ℕ, ◌+◌, ◌≤◌, ◌++◌, List, length, map, take}
use Rattle.metric_events.specs.Points.{admitted}
use Rattle.metric_events.specs.Series.{series_in_order}
use Rattle.metric_events.specs.declared.accepted.Accepted.{Accepted}
use Rattle.delta_book.specs.Tables.{AreCells}
use Rattle.delta_book.proofs.without_alloc.count_series.Given as goal

abbrev pub invariant-loop-j : goal.invariant-loop-j
invariant-loop-j l = record {
  few : l.n ≤ length l.cells + l.j;
  value : (b : ℕ) (s : List ℕ) (qs : List Accepted) → AreCells l.cells qs
      → l.n ≡ length (series_in_order (qs ++ map (admitted b s) (take l.j l.batch)));
}
