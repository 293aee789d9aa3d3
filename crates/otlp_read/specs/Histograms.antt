-- Points of histograms.
use Rattle.std.specs.Prelude.{ℕ, if◌then◌else◌, Option, Some, None, codes, option_map}
use Rattle.std.specs.Result.{result_ok}
use Rattle.serde_json.specs.Data.{Data}
use Rattle.series_id.specs.declared.limits.TheConstants.{MAX_BOUND}
use Rattle.series_id.specs.declared.kinds.Kind.{Kind}
use Rattle.series_id.specs.Ascending.{histogram_of}
use Rattle.metric_events.specs.DataPoint.{DataPoint}
use Rattle.metric_events.specs.NewPoints.{point_of_histogram}
use Rattle.metric_events.specs.PointFaults.{histogram_fault}
use Rattle.otlp_read.specs.Integers.{unsigned_64, signed_in}
use Rattle.otlp_read.specs.Fields.{field, flags_fit, nanos_in}
use Rattle.otlp_read.specs.Lists.{◌>>=◌, list_in}
use Rattle.otlp_read.specs.Rules.{unless}
use Rattle.otlp_read.specs.Streams.{Stream, series_of}

-- count: a whole number of 64 bits; absent is 0
unfoldable pub count_in : Option Data → Option ℕ
count_in None = Some 0
count_in (Some d) = unsigned_64 d

-- sum: a whole number of 64 bits, or absent; how large it may be is a rule of points
unfoldable pub total_in : Option Data → Option (Option ℕ)
total_in None = Some None
total_in (Some d) = option_map (λ n. Some n) (unsigned_64 d)

-- start, end, count and sum of a histogram's point
pub record HistogramFields : Type 0 where
  pub start : ℕ
  pub end : ℕ
  pub count : ℕ
  pub total : Option ℕ

-- none if one of them is none, or if there is no recorded value
unfoldable pub histogram_fields : Data → Option HistogramFields
histogram_fields d = do
  start ← nanos_in (field (codes "startTimeUnixNano") d)
  end ← nanos_in (field (codes "timeUnixNano") d)
  count ← count_in (field (codes "count") d)
  total ← total_in (field (codes "sum") d)
  if flags_fit (field (codes "flags") d)
      then Some (record { start = start; end = end; count = count; total = total })
      else None

-- explicitBounds: whole numbers that may be the bounds of a histogram
unfoldable pub kind_in : Data → Option Kind
kind_in d = do
  bounds ← list_in (signed_in MAX_BOUND MAX_BOUND) (field (codes "explicitBounds") d)
  result_ok (histogram_of bounds)

-- a point of a histogram; without buckets and bounds its count is its one bucket
unfoldable pub histogram_point : Stream → Data → Option DataPoint
histogram_point stream d = do
  fields ← histogram_fields d
  kind ← kind_in d
  buckets ← list_in unsigned_64 (field (codes "bucketCounts") d)
  series ← series_of stream kind (field (codes "attributes") d)
  unless (histogram_fault series.kind fields.start fields.end fields.count fields.total buckets)
      (point_of_histogram series fields.start fields.end fields.count fields.total buckets)

-- in no stream, every point is foreign
abbrev pub histogram_point_in : Option Stream → Data → Option DataPoint
histogram_point_in None d = None
histogram_point_in (Some stream) d = histogram_point stream d
