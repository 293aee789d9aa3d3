-- Which part of a post goes beyond the stretch of time of what its book holds pending.
use Rattle.std.specs.Prelude.{◌≡◌, ℕ, ◌-◌, ◌/◌, ◌<◌, ◌≤◌, Bool, true, false, nat_lt}
use Rattle.std.specs.Prelude.{List, filter, get_or, length, Option, Some, None}
use Rattle.std.specs.List.{list_any}
use Rattle.series_id.specs.Identity.{Identity}
use Rattle.metric_events.specs.DataPoint.{DataPoint}
use Rattle.metric_events.specs.Interval.{Interval}
use Rattle.metric_events.specs.Points.{points, is_home}
use Rattle.metric_events.specs.Series.{of_series, hull}
use Rattle.metric_events.specs.Standing.{stands}
use Rattle.delta_book.specs.Journal.{Journal, history}
use Rattle.book_desk.specs.declared.part.Part.{Part}
use Rattle.book_desk.specs.Splits.{points_in}

-- the stretch, of so many nanoseconds, in which what ends at a time counts: one that ends with a
-- stretch counts in it. So of an hour's length that is hour h for what ends in (h, h + 1]
abbrev pub stretch_of : (stretch time : ℕ) → ℕ
stretch_of stretch time = (time - 1) / stretch

-- the span that covers what a book holds pending of a series, where it holds something
abbrev pub pending_span : Journal → Identity → Option Interval
pending_span book x = hull (filter (stands is_home) (of_series x (points (history book))))

-- there is such a span, and the point ends in a later stretch than it
abbrev pub is_later_than : (stretch : ℕ) → Option Interval → DataPoint → Bool
is_later_than stretch None p = false
is_later_than stretch (Some span) p =
    nat_lt (stretch_of stretch span.end) (stretch_of stretch p.span.end)

-- a point ends in a later stretch than what the book holds pending of its series
abbrev pub goes_beyond : (stretch : ℕ) → Journal → DataPoint → Bool
goes_beyond stretch book p = is_later_than stretch (pending_span book p.series) p

-- one of the part's points does
abbrev pub crosses : (stretch : ℕ) → Journal → Option Part → Bool
crosses stretch book part = list_any (goes_beyond stretch book) (points_in part)

-- from the first-th book on no part does, before the i-th
abbrev pub NoneCrosses :
    (stretch : ℕ) → List Journal → List (Option Part) → (first i : ℕ) → Type 0
NoneCrosses stretch books parts first i =
    (k : ℕ) (d : Journal) (e : Option Part) → first ≤ k → k < i
    → crosses stretch (get_or books k d) (get_or parts k e) ≡ false

-- the part of the i-th book is the first, from the first-th book on, that does
pub record IsCrossing (stretch : ℕ) (books : List Journal) (parts : List (Option Part))
    (first i : ℕ) : Type 0 where
  pub from : first ≤ i
  pub found : i < length books
  pub before : NoneCrosses stretch books parts first i
  pub crossed : (d : Journal) (e : Option Part)
      → crosses stretch (get_or books i d) (get_or parts i e) ≡ true
