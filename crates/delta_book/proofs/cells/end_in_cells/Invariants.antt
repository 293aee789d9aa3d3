use Rattle.std.proofs.Common.{◌≡◌, ℕ, List, map, take, true, false}
use Rattle.std.specs.List.{list_any, list_all}
use Rattle.metric_events.specs.Points.{is_flying, landed, is_in_flight}
use Rattle.metric_events.specs.Legal.{are_distinct}
use Rattle.metric_events.specs.Series.{of_series}
use Rattle.metric_events.specs.Standing.{stands}
use Rattle.metric_events.specs.declared.accepted.Accepted.{Accepted}
use Rattle.delta_book.specs.Tables.{AreCells}
use Rattle.delta_book.specs.inner.Tables.{on_series}
use Rattle.delta_book.proofs.cells.end_in_cells.Given as goal

abbrev pub invariant-loop-x : goal.invariant-loop-x
invariant-loop-x l = (f : ℕ) (qs : List Accepted) → AreCells l.fn.cells qs
    → are_distinct l.series ≡ true → list_all
    (λ x. list_any (stands (is_in_flight f)) (of_series x qs)) l.series ≡ true
    → is_flying l.place ≡ false → AreCells l.cells
    (map (on_series (landed f l.place) (take l.x-index l.series)) qs)
