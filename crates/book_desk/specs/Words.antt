-- What words say of points by number. Of each point come, in this order: its number, which is that
-- of its series among the names; its start and its end (nanoseconds); of a sum its value, the 64
-- bits of a number with a sign; of a histogram its count, whether it has a sum, that sum, and its
-- buckets, one more than it has bounds.
use Rattle.std.specs.Prelude.{ℕ, zero, suc, ◌+◌, ◌==◌, List, [], ◌∷◌, length, take, drop}
use Rattle.std.specs.Prelude.{slice_get, slice_index, if◌then◌else◌, Option, Some, None}
use Rattle.std.specs.Int.{w64, cast_signed}
use Rattle.series_id.specs.Identity.{Identity}
use Rattle.series_id.specs.declared.kinds.Kind.{Kind}
use Rattle.series_id.specs.declared.kinds.Kind.TheVariants.{Sum, Histogram}
use Rattle.metric_events.specs.DataPoint.{DataPoint}
use Rattle.metric_events.specs.NewPoints.{point_of_sum, point_of_histogram}
use Rattle.metric_events.specs.PointFaults.{sum_fault, histogram_fault}
use Rattle.otlp_read.specs.Lists.{◌>>=◌}
use Rattle.otlp_read.specs.Rules.{unless}
use Rattle.otlp_read.specs.Tallies.{Tally, add_point, nothing}

-- how many words come after the number
abbrev pub width : Kind → ℕ
width (Sum monotonic) = 3
width (Histogram bounds) = length bounds + 6

-- the point of a sum that these words say, unless it breaks a rule of points
abbrev pub sum_said : Identity → List ℕ → Option DataPoint
sum_said series ws =
    let start = slice_index ws 0 in
    let end = slice_index ws 1 in
    let value = cast_signed w64 (slice_index ws 2) in
    unless (sum_fault series.kind start end value) (point_of_sum series start end value)

-- the sum of a histogram, where there is one
abbrev pub sum_if : (has sum : ℕ) → Option ℕ
sum_if has sum = if has == 0 then None else Some sum

-- the same of a histogram
abbrev pub histogram_said : Identity → List ℕ → Option DataPoint
histogram_said series ws =
    let start = slice_index ws 0 in
    let end = slice_index ws 1 in
    let count = slice_index ws 2 in
    let total = sum_if (slice_index ws 3) (slice_index ws 4) in
    let buckets = drop 5 ws in
    unless (histogram_fault series.kind start end count total buckets)
    (point_of_histogram series start end count total buckets)

-- the point of a series that these words say after its number
abbrev pub said_by : Kind → Identity → List ℕ → Option DataPoint
said_by (Sum monotonic) series ws = sum_said series ws
said_by (Histogram bounds) series ws = histogram_said series ws

abbrev pub point_said : Identity → List ℕ → Option DataPoint
point_said series ws = said_by series.kind series ws

-- what the words say, after so many that belong to the point before; a point that breaks a rule is
-- foreign, as where JSON is read. None where a number has no name, or the words end within a point
unfoldable pub said : List Identity → (skip : ℕ) → List ℕ → Tally → Option Tally
said names (suc k) (w ∷ ws) t = said names k ws t
said names (suc k) [] t = None
said names zero [] t = Some t
said names zero (number ∷ ws) t = do
  series ← slice_get names number
  said names (width series.kind) ws
      (add_point (point_said series (take (width series.kind) ws)) t)

-- the points that the words say
abbrev pub points_of : List Identity → List ℕ → Option Tally
points_of names words = said names 0 words nothing
