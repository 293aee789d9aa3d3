-- The messages of a request as JSON, from the data of a metric outwards.
use Rattle.std.specs.Prelude.{ℕ, ◌%◌, ◌^◌, ◌==◌, not, List, map, codes, option_map}
use Rattle.std.specs.Int.{w32, cast_signed}
use Rattle.serde_json.specs.Data.{Data, boolean, string, object, member, no_members}
use Rattle.otlp_protobuf.specs.Wire.{Value, fields}
use Rattle.otlp_protobuf.specs.Fields.{bits, last, text_at, contents, whole_at}
use Rattle.otlp_protobuf.specs.Members.{or_null, signed_data, list_data}
use Rattle.otlp_protobuf.specs.Values.{key_value}
use Rattle.otlp_protobuf.specs.Points.{number_point, histogram_point}

-- aggregation_temporality: an enum is the number of the lowest 32 bits, with their sign
unfoldable pub temporality : Value → Data
temporality v = signed_data (cast_signed w32 (bits v % 2 ^ 32))

-- is_monotonic: any number but 0 is true
abbrev pub truth : Value → Data
truth v = boolean (not (bits v == 0))

-- a point of which nothing is read
abbrev pub other_point : List ℕ → Data
other_point bytes = object no_members

-- a gauge, an exponential histogram or a summary, whose points are only counted
unfoldable pub other_message : List ℕ → Data
other_message bytes = object (
    member (codes "dataPoints") (list_data (map other_point (contents 1 (fields bytes))))
    no_members)

unfoldable pub sum_message : List ℕ → Data
sum_message bytes = object (
    member (codes "dataPoints") (list_data (map number_point (contents 1 (fields bytes)))) (
    member (codes "aggregationTemporality") (or_null (option_map temporality (last 2 bytes))) (
    member (codes "isMonotonic") (or_null (option_map truth (last 3 bytes))) no_members)))

unfoldable pub histogram_message : List ℕ → Data
histogram_message bytes = object (
    member (codes "dataPoints") (list_data (map histogram_point (contents 1 (fields bytes)))) (
    member (codes "aggregationTemporality") (or_null (option_map temporality (last 2 bytes)))
    no_members))

-- a metric has each kind of data that is there: otherwise the points of all but the last kind would
-- be lost in silence
unfoldable pub metric_message : List ℕ → Data
metric_message bytes = object (
    member (codes "name") (or_null (option_map string (text_at 1 bytes))) (
    member (codes "unit") (or_null (option_map string (text_at 3 bytes))) (
    member (codes "gauge") (or_null (option_map other_message (whole_at 5 bytes))) (
    member (codes "sum") (or_null (option_map sum_message (whole_at 7 bytes))) (
    member (codes "histogram") (or_null (option_map histogram_message (whole_at 9 bytes))) (
    member (codes "exponentialHistogram")
    (or_null (option_map other_message (whole_at 10 bytes))) (
    member (codes "summary") (or_null (option_map other_message (whole_at 11 bytes)))
    no_members)))))))

unfoldable pub scope_message : List ℕ → Data
scope_message bytes = object (
    member (codes "name") (or_null (option_map string (text_at 1 bytes))) (
    member (codes "version") (or_null (option_map string (text_at 2 bytes))) (
    member (codes "attributes") (list_data (map key_value (contents 3 (fields bytes))))
    no_members)))

unfoldable pub scope_metrics_message : List ℕ → Data
scope_metrics_message bytes = object (
    member (codes "scope") (or_null (option_map scope_message (whole_at 1 bytes))) (
    member (codes "metrics") (list_data (map metric_message (contents 2 (fields bytes))))
    no_members))

unfoldable pub resource_message : List ℕ → Data
resource_message bytes = object (
    member (codes "attributes") (list_data (map key_value (contents 1 (fields bytes)))) no_members)

unfoldable pub resource_metrics_message : List ℕ → Data
resource_metrics_message bytes = object (
    member (codes "resource") (or_null (option_map resource_message (whole_at 1 bytes))) (
    member (codes "scopeMetrics")
    (list_data (map scope_metrics_message (contents 2 (fields bytes))))
    no_members))

unfoldable pub request_message : List ℕ → Data
request_message bytes = object (
    member (codes "resourceMetrics")
    (list_data (map resource_metrics_message (contents 1 (fields bytes)))) no_members)
