-- A cell, and the points that it represents.
use Rattle.std.specs.Prelude.{◌≡◌, ℕ, Bool, true, ◌||◌, ◌&&◌, List, [], ◌∷◌, ◌++◌, map, filter}
use Rattle.std.specs.Prelude.{length, drop, take, max, nat_le, if◌then◌else◌, ◌==◌, not, ◌⊎◌}
use Rattle.std.specs.List.{list_all}
use Rattle.std.specs.declared.option.Option.{Option}
use Rattle.series_id.specs.Identity.{Identity, row_length}
use Rattle.metric_events.specs.Interval.{Interval, IsInterval}
use Rattle.metric_events.specs.DataPoint.{DataPoint}
use Rattle.metric_events.specs.Rows.{zeros}
use Rattle.metric_events.specs.Points.{is_home, is_in_flight, is_acknowledged, is_dropped, at}
use Rattle.metric_events.specs.Points.{admitted, mark, carried_of}
use Rattle.metric_events.specs.Legal.{is_batch_home}
use Rattle.metric_events.specs.Series.{row_sum}
use Rattle.metric_events.specs.Standing.{stands}
use Rattle.metric_events.specs.declared.place.Place.{Place}
use Rattle.metric_events.specs.declared.place.Place.TheVariants.{InFlight}
use Rattle.metric_events.specs.declared.accepted.Accepted.{Accepted}
use Rattle.metric_events.specs.declared.opened_series.OpenedSeries.{OpenedSeries}
use Rattle.series_cell.specs.Spans.{span_of, end_of_spans, hull_of}
use Rattle.series_cell.specs.declared.batch_span.BatchSpan.{BatchSpan}

-- the contents of a cell: five rows; the spans of points that have not landed, those before the cut
-- being in flight with flush; the greatest end of those that have landed; and how many more spans
-- there is room for
pub record CellView : Type 0 where
  pub owner : List ℕ
  pub id : Identity
  pub accepted : List ℕ
  pub stored : List ℕ
  pub in_flight : List ℕ
  pub acknowledged : List ℕ
  pub dropped : List ℕ
  pub spans : List BatchSpan
  pub cut : ℕ
  pub flush : ℕ
  pub landed : ℕ
  pub spare : ℕ

-- acknowledged or dropped
abbrev pub is_landed : Place → Bool
is_landed place = is_acknowledged place || is_dropped place

-- a point of this sender and series, with a row of the length of its kind
pub record IsOwn (s : List ℕ) (x : Identity) (a : Accepted) : Type 0 where
  pub series : a.point.series ≡ x
  pub sender : a.sender ≡ s
  pub span : IsInterval a.point.span
  pub long : length a.point.row ≡ row_length x.kind

abbrev pub AllOwn : List ℕ → Identity → List Accepted → Type 0
AllOwn s x [] = Unit {0}
AllOwn s x (a ∷ qs) = IsOwn s x a × AllOwn s x qs

abbrev pub starts_from : ℕ → Accepted → Bool
starts_from end a = nat_le end a.point.span.start

-- each ends before those after it start, or at their start
abbrev pub InOrder : List Accepted → Type 0
InOrder [] = Unit {0}
InOrder (a ∷ qs) = (list_all (starts_from a.point.span.end) qs ≡ true) × InOrder qs

-- the greatest end, 0 if there is no point
abbrev pub greatest_end : List Accepted → ℕ
greatest_end [] = 0
greatest_end (a ∷ qs) = max a.point.span.end (greatest_end qs)

-- the cell represents these points of its series: its rows are their sums by state, and its spans
-- theirs. Those that have landed come first, then those in flight, then the pending ones; those
-- that have not landed are in order of time.
pub record Stands (c : CellView) (qs : List Accepted) : Type 0 where
  pub gone : List Accepted
  pub away : List Accepted
  pub home : List Accepted
  pub parts : qs ≡ gone ++ (away ++ home)
  pub are_gone : list_all (stands is_landed) gone ≡ true
  pub are_away : list_all (stands (is_in_flight c.flush)) away ≡ true
  pub are_home : list_all (stands is_home) home ≡ true
  pub own : AllOwn c.owner c.id qs
  pub ordered : InOrder (away ++ home)
  pub accepted : c.accepted ≡ row_sum (row_length c.id.kind) qs
  pub stored : c.stored ≡ row_sum (row_length c.id.kind) home
  pub in_flight : c.in_flight ≡ row_sum (row_length c.id.kind) away
  pub acknowledged :
      c.acknowledged ≡ row_sum (row_length c.id.kind) (filter (stands is_acknowledged) gone)
  pub dropped : c.dropped ≡ row_sum (row_length c.id.kind) (filter (stands is_dropped) gone)
  pub spans : c.spans ≡ map span_of (away ++ home)
  pub cut : c.cut ≡ length away
  pub landed : c.landed ≡ greatest_end gone

-- the greatest end of its points, 0 if there is none
abbrev pub end_of : CellView → ℕ
end_of c = max c.landed (end_of_spans 0 c.spans)

-- the covering span of the pending points, and of those in flight
abbrev pub home_hull : CellView → Option Interval
home_hull c = hull_of (drop c.cut c.spans)

abbrev pub flight_hull : CellView → Option Interval
flight_hull c = hull_of (take c.cut c.spans)

-- a point after a flush has taken it
abbrev pub lifted : ℕ → Accepted → Accepted
lifted f a = if is_home a.place then at (InFlight f) a else a

-- the point without its words: its series and span, with a row of zeros
abbrev pub bare : DataPoint → DataPoint
bare p = record { series = p.series; span = p.span; row = zeros (row_length p.series.kind) }

-- a cell of the same sender and series
pub record IsOfSame (c d : CellView) : Type 0 where
  pub owner : d.owner ≡ c.owner
  pub id : d.id ≡ c.id

-- this point of the batch is pending
abbrev pub HasHome : CellView → ℕ → DataPoint → Type 0
HasHome c b p =
    (before : List Accepted) × ((after : List Accepted)
    × Stands c (before ++ admitted b c.owner p ∷ after))

abbrev pub is_of_batch : ℕ → Accepted → Bool
is_of_batch b a = a.batch == b

-- a pending point of the batch
abbrev pub is_home_of : ℕ → Accepted → Bool
is_home_of b a = a.batch == b && is_home a.place

abbrev pub is_other_or_off : ℕ → Accepted → Bool
is_other_or_off b a = not (a.batch == b) || not (is_home a.place)

-- the batch's points are all pending, or none is
abbrev pub AreTogether : ℕ → List Accepted → Type 0
AreTogether b qs = (is_batch_home b qs ≡ true) ⊎ (list_all (is_other_or_off b) qs ≡ true)

-- what the cell passes on to the next round: series, owner, frontier, and what is pending
pub record HandsOn (c : CellView) (s : OpenedSeries) : Type 0 where
  pub series : s.series ≡ c.id
  pub owner : s.owner ≡ c.owner
  pub frontier : s.frontier ≡ end_of c
  pub home : s.home ≡ c.stored
  pub home_span : s.home_span ≡ home_hull c

-- what the next round begins with of a series
abbrev pub opened_with : OpenedSeries → List Accepted
opened_with s = mark s ∷ carried_of s s.home_span
