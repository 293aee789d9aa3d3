-- The count of series is that of the cells.
use Rattle.std.proofs.Common.{◌≡◌, ℕ, Bool, List, length, ap, ◌∙◌, arith}
use Rattle.std.specs.Prelude.{nat_lt}
use Rattle.metric_events.specs.Series.{series_count}
use Rattle.metric_events.specs.declared.limits.TheConstants.{MAX_SERIES}
use Rattle.metric_events.specs.declared.accepted.Accepted.{Accepted}
use Rattle.series_cell.specs.Cells.{CellView}
use Rattle.delta_book.specs.Tables.{AreCells}
use Rattle.delta_book.proofs.Counting.{count_is, counted_none}

pub many_is : (v : Bool) (cs : List CellView) (qs : List Accepted) (n : ℕ) → n ≡ length cs
    → v ≡ nat_lt MAX_SERIES n → AreCells cs qs → v ≡ nat_lt MAX_SERIES (series_count qs)
many_is v cs qs n l e h =
    e ∙ ap (nat_lt MAX_SERIES) (omega (arith, l, counted_none cs qs h, count_is qs))
