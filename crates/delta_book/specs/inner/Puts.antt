-- A batch goes into the cells, point by point.
use Rattle.std.specs.Prelude.{◌≡◌, ℕ, zero, suc, Bool, true, false, not, List, [], ◌∷◌, ◌++◌, map}
use Rattle.std.specs.Prelude.{if◌then◌else◌, nat_lt, unwrap_or, Some, None}
use Rattle.std.specs.declared.option.Option.{Option}
use Rattle.series_id.specs.Identity.{Identity, row_length}
use Rattle.series_id.specs.Order.{series_before}
use Rattle.metric_events.specs.DataPoint.{DataPoint}
use Rattle.metric_events.specs.Points.{admitted}
use Rattle.metric_events.specs.Rows.{add_rows, fits, zeros}
use Rattle.metric_events.specs.Senders.{same_sender}
use Rattle.metric_events.specs.Series.{frontier, series_count, sum_of}
use Rattle.metric_events.specs.declared.limits.TheConstants.{MAX_SERIES}
use Rattle.metric_events.specs.declared.accepted.Accepted.{Accepted}
use Rattle.series_cell.specs.Cells.{CellView, Stands, end_of}
use Rattle.delta_book.specs.Refusals.{has_other_writer, point_fault}
use Rattle.delta_book.specs.declared.faults.AdmitFault.{AdmitFault}
use Rattle.delta_book.specs.declared.faults.AdmitFault.TheVariants.{OtherWriter, OutOfOrder}
use Rattle.delta_book.specs.declared.faults.AdmitFault.TheVariants.{TooManySeries}
use Rattle.delta_book.specs.declared.faults.AdmitFault.TheVariants as sums
use Rattle.delta_book.specs.declared.put.Rejection.{Rejection}
use Rattle.delta_book.specs.declared.put.Rejection.TheVariants.{Fault, TooLarge, NoMemory}
use Rattle.delta_book.specs.declared.cells.Fill.{Fill}
use Rattle.delta_book.specs.declared.cells.Fill.TheVariants.{Point}

-- series x belongs before cell i, after the series that come before it
abbrev pub IsGap : List CellView → ℕ → Identity → Type 0
IsGap [] i x = i ≡ 0
IsGap (c ∷ cs) zero x = series_before x c.id ≡ true
IsGap (c ∷ cs) (suc i) x = (series_before c.id x ≡ true) × IsGap cs i x

-- why a cell refuses a point of its series at position i of a batch: the series has another sender,
-- or the point starts before the frontier
abbrev pub fault_at : CellView → List ℕ → ℕ → DataPoint → Option AdmitFault
fault_at c s i p =
    if not (same_sender c.owner s) then Some (OtherWriter i)
    else (if nat_lt p.span.start (end_of c) then Some (OutOfOrder i (end_of c)) else None)

-- why the point at position i of a batch may not follow these points
abbrev pub next_fault : List Accepted → List ℕ → ℕ → DataPoint → Option AdmitFault
next_fault qs s i p =
    if has_other_writer qs p.series s then Some (OtherWriter i)
    else (if nat_lt p.span.start (frontier p.series qs) then Some (OutOfOrder i
    (frontier p.series qs)) else None)

-- with the point, the sum of its series is within its limits
abbrev pub fits_with : List Accepted → DataPoint → Bool
fits_with qs p = fits p.series.kind (add_rows (sum_of p.series qs) p.row)

-- a cell has a point of a batch more, which comes last
abbrev pub AddsPoint : CellView → CellView → ℕ → DataPoint → Type 0
AddsPoint old new b p =
    (qs : List Accepted) → Stands old qs → Stands new (qs ++ admitted b old.owner p ∷ [])

-- with the point, the sum of its cell is within its limits
abbrev pub fits_in : CellView → DataPoint → Bool
fits_in c p = fits p.series.kind (add_rows c.accepted p.row)

-- the point alone is within the limits of its series
abbrev pub fits_alone : DataPoint → Bool
fits_alone p = fits p.series.kind (add_rows (zeros (row_length p.series.kind)) p.row)

-- what refuses this part of a point in its cell, with which the sum fits or not
abbrev pub RejectsPart : Rejection → Fill → Bool → Type 0
RejectsPart (Fault f) fill fits = ⊥
RejectsPart TooLarge fill fits = (fill ≡ Point) × (fits ≡ false)
RejectsPart NoMemory fill fits = Unit {0}

-- what refuses this part of the point at position i of a batch after these points: its fault, a sum
-- over its limits, or a failed allocation
abbrev pub RejectsAt : Rejection → Fill → List Accepted → List ℕ → ℕ → DataPoint → Type 0
RejectsAt (Fault f) fill qs s i p = next_fault qs s i p ≡ Some f
RejectsAt TooLarge fill qs s i p = RejectsPart TooLarge fill (fits_with qs p)
RejectsAt NoMemory fill qs s i p = Unit {0}

-- what refuses a batch with a sum over its limits, whose points before position i are accepted: a
-- point from there on, else the count of series, else the sum
abbrev pub large_fault : ℕ → ℕ → List Accepted → List ℕ → List DataPoint → AdmitFault
large_fault b i qs s ps =
    unwrap_or (point_fault qs s i ps)
    (if nat_lt MAX_SERIES (series_count (qs ++ map (admitted b s) ps)) then TooManySeries
    else sums.TooLarge)
