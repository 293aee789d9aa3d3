-- What the totals of a cell say of the points that it represents.
use Rattle.std.specs.Prelude.{◌≡◌, List, filter, length, nat_lt}
use Rattle.std.specs.List.{list_any}
use Rattle.series_id.specs.Identity.{row_length}
use Rattle.metric_events.specs.Points.{is_home, is_flying, is_acknowledged, is_dropped}
use Rattle.metric_events.specs.Series.{hull, row_sum, frontier}
use Rattle.metric_events.specs.Standing.{stands}
use Rattle.metric_events.specs.declared.accepted.Accepted.{Accepted}
use Rattle.series_cell.specs.Cells.{CellView, end_of, home_hull, flight_hull}

-- the rows and covering spans are those of its points by state, and so is the frontier
pub record IsTotalOf (c : CellView) (qs : List Accepted) : Type 0 where
  pub accepted : c.accepted ≡ row_sum (row_length c.id.kind) qs
  pub stored : c.stored ≡ row_sum (row_length c.id.kind) (filter (stands is_home) qs)
  pub in_flight : c.in_flight ≡ row_sum (row_length c.id.kind) (filter (stands is_flying) qs)
  pub acknowledged :
      c.acknowledged ≡ row_sum (row_length c.id.kind) (filter (stands is_acknowledged) qs)
  pub dropped : c.dropped ≡ row_sum (row_length c.id.kind) (filter (stands is_dropped) qs)
  pub home_span : home_hull c ≡ hull (filter (stands is_home) qs)
  pub flight_span : flight_hull c ≡ hull (filter (stands is_flying) qs)
  pub frontier : end_of c ≡ frontier c.id qs
  pub flying : nat_lt 0 c.cut ≡ list_any (stands is_flying) qs
  pub at_home : nat_lt c.cut (length c.spans) ≡ list_any (stands is_home) qs
