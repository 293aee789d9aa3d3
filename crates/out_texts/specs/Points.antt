-- Points as JSON.
use Rattle.std.specs.Prelude.{ℕ, ℤ, pos, ◌-ℤ◌, ◌==◌, List, map, sum, codes, decimal, slice_index}
use Rattle.std.specs.Prelude.{if◌then◌else◌, Option, Some, None, option_map}
use Rattle.std.specs.Fmt.{signed_decimal}
use Rattle.serde_json.specs.Data.{Data, number, unsigned, string, array, object, no_members, member}
use Rattle.serde_json.specs.Find.{of_integer}
use Rattle.serde_json.specs.View.{items_of}
use Rattle.series_id.specs.declared.kinds.Kind.{Kind}
use Rattle.series_id.specs.declared.kinds.Kind.TheVariants.{Sum, Histogram}
use Rattle.metric_events.specs.DataPoint.{DataPoint}
use Rattle.metric_events.specs.Rows.{buckets_of}
use Rattle.out_texts.specs.Attributes.{attributes_value}
use Rattle.out_texts.specs.Members.{member_if}

-- the value of a sum's row: the positive values less the negative ones
abbrev pub sum_of : List ℕ → ℤ
sum_of row = pos (slice_index row 1) -ℤ pos (slice_index row 2)

-- a sum's point: its value, its attributes and its span
abbrev pub sum_point_value : DataPoint → Data
sum_point_value p = object (
    member (codes "asInt") (string (signed_decimal (sum_of p.row))) (
    member (codes "attributes") (attributes_value p.series.attrs) (
    member (codes "startTimeUnixNano") (string (decimal p.span.start)) (
    member (codes "timeUnixNano") (string (decimal p.span.end)) no_members))))

-- counts, as texts
abbrev pub counts_value : List ℕ → Data
counts_value counts = array (items_of (map (λ n. string (decimal n)) counts))

-- bounds, as numbers
abbrev pub bounds_value : List ℤ → Data
bounds_value bounds = array (items_of (map (λ b. number (of_integer b)) bounds))

-- the sum of a histogram's row, if each of its points had one
unfoldable pub total_of : List ℕ → Option ℕ
total_of row = if slice_index row 1 == 0 then Some (slice_index row 2) else None

-- a histogram's point: its attributes, its buckets, their sum as its count, its bounds, its span
-- and this sum, if it has one
abbrev pub histogram_with : Option ℕ → List ℤ → DataPoint → Data
histogram_with total bounds p = object (
    member (codes "attributes") (attributes_value p.series.attrs) (
    member (codes "bucketCounts") (counts_value (buckets_of p.row)) (
    member (codes "count") (string (decimal (sum (buckets_of p.row)))) (
    member (codes "explicitBounds") (bounds_value bounds) (
    member (codes "startTimeUnixNano") (string (decimal p.span.start)) (
    member_if (codes "sum") (option_map (λ n. number (unsigned n)) total) (
    member (codes "timeUnixNano") (string (decimal p.span.end)) no_members)))))))

abbrev pub histogram_point_value : List ℤ → DataPoint → Data
histogram_point_value bounds p = histogram_with (total_of p.row) bounds p

-- the point of a series of this kind
abbrev pub point_of_kind : Kind → DataPoint → Data
point_of_kind (Sum monotonic) p = sum_point_value p
point_of_kind (Histogram bounds) p = histogram_point_value bounds p

-- a point, as an element of dataPoints
unfoldable pub point_value : DataPoint → Data
point_value p = point_of_kind p.series.kind p
