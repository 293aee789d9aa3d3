-- Metrics: their five data fields, and the points in them.
use Rattle.std.specs.Prelude.{ℕ, ◌+◌, List, length, Bool, nat_le, if◌then◌else◌, Option, Some, None}
use Rattle.std.specs.Prelude.{Result, Ok, codes}
use Rattle.serde_json.specs.Data.{Data}
use Rattle.otlp_read.specs.declared.place.Place.{Place}
use Rattle.otlp_read.specs.declared.place.Place.TheVariants.{DataField, DataPoints}
use Rattle.otlp_read.specs.Fields.{field}
use Rattle.otlp_read.specs.Containers.{◌>>=◌, objects, object_in}
use Rattle.otlp_read.specs.Streams.{Scope, stream_in, sum_stream_in}
use Rattle.otlp_read.specs.Sums.{sum_point_in}
use Rattle.otlp_read.specs.Histograms.{histogram_point_in}
use Rattle.otlp_read.specs.Tallies.{Tally, add_foreign, add_metric, each_point}

-- a data field, and its points
pub record Part : Type 0 where
  pub whole : Data
  pub points : List Data

-- a data field that may be absent
abbrev pub part_in : Option Data → Result (Option Part) Place
part_in None = Ok None
part_in (Some d) = do
  points ← objects DataPoints (field (codes "dataPoints") d)
  Ok (Some (record { whole = d; points = points }))

-- the data field of this name, an object, then its points, an array of objects
unfoldable pub part : List ℕ → Data → Result (Option Part) Place
part name metric = do
  found ← object_in DataField (field name metric)
  part_in found

-- the five data fields; a metric should have one of them
pub record Parts : Type 0 where
  pub gauge : Option Part
  pub sum : Option Part
  pub histogram : Option Part
  pub exponential : Option Part
  pub summary : Option Part

unfoldable pub parts : Data → Result Parts Place
parts metric = do
  gauge ← part (codes "gauge") metric
  sum ← part (codes "sum") metric
  histogram ← part (codes "histogram") metric
  exponential ← part (codes "exponentialHistogram") metric
  summary ← part (codes "summary") metric
  Ok (record {
    gauge = gauge;
    sum = sum;
    histogram = histogram;
    exponential = exponential;
    summary = summary;
  })

-- 1 for a data field that is present
abbrev pub one_if : Option Part → ℕ
one_if None = 0
one_if (Some p) = 1

-- there is at most one data field
unfoldable pub is_single : Parts → Bool
is_single ps =
    nat_le (one_if ps.gauge + one_if ps.sum + one_if ps.histogram + one_if ps.exponential
    + one_if ps.summary) 1

-- all points of a data field are foreign
abbrev pub add_all : Option Part → Tally → Tally
add_all None t = t
add_all (Some p) t = add_foreign (length p.points) t

-- the points of a sum
abbrev pub add_sum : Option Scope → Data → Option Part → Tally → Tally
add_sum scope metric None t = t
add_sum scope metric (Some p) t =
    each_point (sum_point_in (sum_stream_in scope metric p.whole)) p.points t

-- the points of a histogram
abbrev pub add_histogram : Option Scope → Data → Option Part → Tally → Tally
add_histogram scope metric None t = t
add_histogram scope metric (Some p) t =
    each_point (histogram_point_in (stream_in scope metric p.whole)) p.points t

-- sums and histograms are read if they are the only data field; else all points are foreign
unfoldable pub add_profile : Option Scope → Data → Parts → Tally → Tally
add_profile scope metric ps t =
    if is_single ps then add_histogram scope metric ps.histogram (add_sum scope metric ps.sum t)
    else add_all ps.histogram (add_all ps.sum t)

-- gauges, exponential histograms and summaries are foreign
unfoldable pub add_parts : Option Scope → Data → Parts → Tally → Tally
add_parts scope metric ps t =
    add_all ps.summary (add_all ps.exponential (add_profile scope metric ps (add_all ps.gauge t)))

-- a metric
unfoldable pub metric : Option Scope → Data → Tally → Result Tally Place
metric scope d t = do
  ps ← parts d
  Ok (add_parts scope d ps (add_metric t))
