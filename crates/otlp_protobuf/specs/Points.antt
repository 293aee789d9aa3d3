-- The points of sums and histograms (`NumberDataPoint`, `HistogramDataPoint`) as JSON.
use Rattle.std.specs.Prelude.{ℕ, ◌%◌, ◌^◌, ◌==◌, if◌then◌else◌, List, map, codes}
use Rattle.std.specs.Prelude.{Some, None, option_map}
use Rattle.std.specs.Int.{w64, cast_signed}
use Rattle.serde_json.specs.Data.{Data, object, member, no_members}
use Rattle.otlp_protobuf.specs.declared.number_point.NumberPoint.{NumberPoint}
use Rattle.otlp_protobuf.specs.declared.histogram_point.HistogramPoint.{HistogramPoint}
use Rattle.otlp_protobuf.specs.Wire.{Field, fields}
use Rattle.otlp_protobuf.specs.Fields.{bits, gathered, contents, numbers}
use Rattle.otlp_protobuf.specs.Members.{or_null, unsigned_data, signed_data, double_data, list_data}
use Rattle.otlp_protobuf.specs.Values.{key_value}

-- what a sum's point says after a field: start_time_unix_nano, time_unix_nano, flags; and the last
-- of as_double and as_int, of which it has one
unfoldable pub take_number : NumberPoint → Field → NumberPoint
take_number p f =
    if f.number == 2 then record p { start = Some (bits f.value) }
    else (if f.number == 3 then record p { end = Some (bits f.value) }
    else (if f.number == 4 then record p { double = Some (bits f.value); int = None }
    else (if f.number == 6
    then record p { double = None; int = Some (cast_signed w64 (bits f.value)) }
    else (if f.number == 8 then record p { flags = Some (bits f.value % 2 ^ 32) } else p))))

abbrev pub no_number : NumberPoint
no_number = record { start = None; end = None; double = None; int = None; flags = None }

-- what the bytes of a point say
abbrev pub number_point_of : List ℕ → NumberPoint
number_point_of bytes = gathered take_number no_number (fields bytes)

-- a point with these attributes, as JSON
unfoldable pub number_point_data : NumberPoint → List Data → Data
number_point_data p attributes = object (
    member (codes "startTimeUnixNano") (or_null (option_map unsigned_data p.start)) (
    member (codes "timeUnixNano") (or_null (option_map unsigned_data p.end)) (
    member (codes "asDouble") (or_null (option_map double_data p.double)) (
    member (codes "asInt") (or_null (option_map signed_data p.int)) (
    member (codes "attributes") (list_data attributes) (
    member (codes "flags") (or_null (option_map unsigned_data p.flags)) no_members))))))

-- the bytes of a point as JSON
abbrev pub number_point : List ℕ → Data
number_point bytes =
    number_point_data (number_point_of bytes) (map key_value (contents 7 (fields bytes)))

-- what a histogram's point says after a field: start_time_unix_nano, time_unix_nano, count, sum,
-- flags
unfoldable pub take_histogram : HistogramPoint → Field → HistogramPoint
take_histogram p f =
    if f.number == 2 then record p { start = Some (bits f.value) }
    else (if f.number == 3 then record p { end = Some (bits f.value) }
    else (if f.number == 4 then record p { count = Some (bits f.value) }
    else (if f.number == 5 then record p { total = Some (bits f.value) }
    else (if f.number == 10 then record p { flags = Some (bits f.value % 2 ^ 32) } else p))))

abbrev pub no_histogram : HistogramPoint
no_histogram = record { start = None; end = None; count = None; total = None; flags = None }

abbrev pub histogram_point_of : List ℕ → HistogramPoint
histogram_point_of bytes = gathered take_histogram no_histogram (fields bytes)

-- a point with these buckets, bounds and attributes, as JSON
unfoldable pub histogram_point_data : HistogramPoint → List Data → List Data → List Data → Data
histogram_point_data p buckets bounds attributes = object (
    member (codes "startTimeUnixNano") (or_null (option_map unsigned_data p.start)) (
    member (codes "timeUnixNano") (or_null (option_map unsigned_data p.end)) (
    member (codes "count") (or_null (option_map unsigned_data p.count)) (
    member (codes "sum") (or_null (option_map double_data p.total)) (
    member (codes "bucketCounts") (list_data buckets) (
    member (codes "explicitBounds") (list_data bounds) (
    member (codes "attributes") (list_data attributes) (
    member (codes "flags") (or_null (option_map unsigned_data p.flags)) no_members))))))))

-- the bytes of a point as JSON
abbrev pub histogram_point : List ℕ → Data
histogram_point bytes =
    histogram_point_data (histogram_point_of bytes) (map unsigned_data (numbers 6 (fields bytes)))
    (map double_data (numbers 7 (fields bytes))) (map key_value (contents 9 (fields bytes)))
