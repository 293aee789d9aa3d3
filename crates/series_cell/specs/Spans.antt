-- The spans of points that are pending or in flight.
use Rattle.std.specs.Prelude.{ℕ, ◌+◌, ◌==◌, Bool, List, [], ◌∷◌, nat_le, if◌then◌else◌, Some, None}
use Rattle.std.specs.List.Sorted.{IsNonDecreasingBy}
use Rattle.std.specs.declared.option.Option.{Option}
use Rattle.metric_events.specs.Interval.{Interval, joined_to}
use Rattle.metric_events.specs.declared.accepted.Accepted.{Accepted}
use Rattle.series_cell.specs.declared.batch_span.BatchSpan.{BatchSpan}

-- the span of a point, and its batch
abbrev pub span_of : Accepted → BatchSpan
span_of a = record { span = a.point.span; batch = a.batch }

abbrev pub is_span_of : ℕ → BatchSpan → Bool
is_span_of b m = m.batch == b

-- the span ends at this moment or earlier
abbrev pub ends_by : ℕ → BatchSpan → Bool
ends_by moment m = nat_le m.span.end moment

-- how many spans, from the first on, end by this moment: the index of the span that starts there
abbrev pub place_of : ℕ → List BatchSpan → ℕ
place_of start [] = 0
place_of start (m ∷ ms) = if ends_by start m then 1 + place_of start ms else 0

-- the end of the last span, or `before` if there is none
abbrev pub end_of_spans : ℕ → List BatchSpan → ℕ
end_of_spans before [] = before
end_of_spans before (m ∷ ms) = end_of_spans m.span.end ms

-- in order of time: starts and ends ascend
pub record AreInOrder (ms : List BatchSpan) : Type 0 where
  pub starts : IsNonDecreasingBy (λ m. m.span.start) ms
  pub ends : IsNonDecreasingBy (λ m. m.span.end) ms

-- the covering span: from the first start to the last end
abbrev pub hull_of : List BatchSpan → Option Interval
hull_of [] = None
hull_of (m ∷ ms) = Some (joined_to m.span (hull_of ms))

-- a covering span, as a span of no batch
abbrev pub joined_spans : Option Interval → List BatchSpan
joined_spans None = []
joined_spans (Some hull) = record { span = hull; batch = 0 } ∷ []
