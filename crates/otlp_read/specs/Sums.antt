-- Points of sums.
use Rattle.std.specs.Prelude.{ℕ, ℤ, Bool, not, ◌&&◌, if◌then◌else◌, codes}
use Rattle.std.specs.Prelude.{Option, Some, None, is_some}
use Rattle.serde_json.specs.Data.{Data}
use Rattle.series_id.specs.declared.kinds.Kind.TheVariants.{Sum}
use Rattle.metric_events.specs.DataPoint.{DataPoint}
use Rattle.metric_events.specs.NewPoints.{point_of_sum}
use Rattle.metric_events.specs.PointFaults.{sum_fault}
use Rattle.otlp_read.specs.Integers.{signed_64}
use Rattle.otlp_read.specs.Fields.{field, flags_fit, nanos_in}
use Rattle.otlp_read.specs.Rules.{unless}
use Rattle.otlp_read.specs.Streams.{SumStream, series_of}
use Rattle.otlp_read.specs.Lists.{◌>>=◌}

-- asInt: a whole number of 64 bits; that it is within its limit, and not negative in a monotonic
-- sum, is a rule of points
unfoldable pub number_in : Option Data → Option ℤ
number_in found = found >>= signed_64

-- a recorded value, and not a double
unfoldable pub is_whole_value : Data → Bool
is_whole_value d = flags_fit (field (codes "flags") d) && not (is_some (field (codes "asDouble") d))

-- start, end and value of a sum's point
pub record SumFields : Type 0 where
  pub start : ℕ
  pub end : ℕ
  pub value : ℤ

-- none if one of them is none, or if there is no recorded whole number
unfoldable pub sum_fields : Data → Option SumFields
sum_fields d = do
  start ← nanos_in (field (codes "startTimeUnixNano") d)
  end ← nanos_in (field (codes "timeUnixNano") d)
  value ← number_in (field (codes "asInt") d)
  if is_whole_value d then Some (record { start = start; end = end; value = value }) else None

-- a point of a sum
unfoldable pub sum_point : SumStream → Data → Option DataPoint
sum_point sum d = do
  fields ← sum_fields d
  series ← series_of sum.stream (Sum sum.monotonic) (field (codes "attributes") d)
  unless (sum_fault series.kind fields.start fields.end fields.value)
      (point_of_sum series fields.start fields.end fields.value)

-- in no stream, every point is foreign
abbrev pub sum_point_in : Option SumStream → Data → Option DataPoint
sum_point_in None d = None
sum_point_in (Some sum) d = sum_point sum d
