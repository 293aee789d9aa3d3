-- A cell of a book, and the cells that a flush takes first.
use Rattle.std.specs.Prelude.{ℕ, Bool, not, ◌&&◌, List, map, filter, take, length, nat_lt}
use Rattle.series_id.specs.Identity.{Identity}
use Rattle.series_cell.specs.Cells.{CellView, Stands}
use Rattle.metric_events.specs.History.{History}
use Rattle.metric_events.specs.Points.{points}
use Rattle.metric_events.specs.Series.{of_series}
use Rattle.metric_events.specs.Legal.{IsLegal, is_held}
use Rattle.delta_book.specs.Tables.{id_of}

-- the cell represents the points of its series in some legal history
abbrev pub IsBookedCell : CellView → Type 0
IsBookedCell c = (E : History) × (IsLegal E × Stands c (of_series c.id (points E)))

-- there are pending points, none in flight, and the owner is not quarantined
abbrev pub is_ready : List (List ℕ) → CellView → Bool
is_ready held c =
    nat_lt c.cut (length c.spans) && (not (nat_lt 0 c.cut) && not (is_held c.owner held))

-- the series of these cells, and the first so many
abbrev pub ready_ids : List (List ℕ) → List CellView → List Identity
ready_ids held cs = map id_of (filter (is_ready held) cs)

abbrev pub first_ready : List (List ℕ) → ℕ → List CellView → List Identity
first_ready held max cs = take max (ready_ids held cs)
