-- The messages of a metrics request: what the field of each number has. A number that is not here
-- says nothing of a point, and is passed over whatever it has.
use Rattle.std.specs.Prelude.{ℕ, ◌==◌, ◌||◌, if◌then◌else◌}
use Rattle.otlp_protobuf.specs.declared.schema.Message.{Message}
use Rattle.otlp_protobuf.specs.declared.schema.Message.TheVariants as message
use Rattle.otlp_protobuf.specs.declared.schema.Kind.{Kind}
use Rattle.otlp_protobuf.specs.declared.schema.Kind.TheVariants.{Unknown, Old, Varint, Fixed64}
use Rattle.otlp_protobuf.specs.declared.schema.Kind.TheVariants.{Packed, Text, Bytes, Inner}

-- a list of messages: its only field
abbrev pub list_of : Message → ℕ → Kind
list_of inner n = if n == 1 then Inner inner else Unknown

-- name and unit; int_gauge, int_sum, int_histogram; gauge, sum, histogram, exponential_histogram
-- and summary
abbrev pub of_metric : ℕ → Kind
of_metric n =
    if n == 1 || n == 3 then Text
    else (if n == 4 || n == 6 || n == 8 then Old
    else (if n == 5 || n == 10 || n == 11 then Inner message.OtherData
    else (if n == 7 then Inner message.Sum
    else (if n == 9 then Inner message.Histogram else Unknown))))

-- data_points, aggregation_temporality, is_monotonic
abbrev pub of_sum : ℕ → Kind
of_sum n =
    if n == 1 then Inner message.NumberPoint
    else (if n == 2 || n == 3 then Varint else Unknown)

-- data_points, aggregation_temporality
abbrev pub of_histogram : ℕ → Kind
of_histogram n =
    if n == 1 then Inner message.HistogramPoint else (if n == 2 then Varint else Unknown)

-- labels; start_time_unix_nano, time_unix_nano, as_double, as_int; exemplars; attributes; flags
abbrev pub of_number_point : ℕ → Kind
of_number_point n =
    if n == 1 then Old
    else (if n == 2 || n == 3 || n == 4 || n == 6 then Fixed64
    else (if n == 5 then Inner message.Exemplar
    else (if n == 7 then Inner message.KeyValue else (if n == 8 then Varint else Unknown))))

-- labels; start_time_unix_nano, time_unix_nano, count, sum; bucket_counts, explicit_bounds;
-- exemplars; attributes; flags
abbrev pub of_histogram_point : ℕ → Kind
of_histogram_point n =
    if n == 1 then Old
    else (if n == 2 || n == 3 || n == 4 || n == 5 then Fixed64
    else (if n == 6 || n == 7 then Packed
    else (if n == 8 then Inner message.Exemplar
    else (if n == 9 then Inner message.KeyValue else (if n == 10 then Varint else Unknown)))))

-- time_unix_nano, as_double, as_int; span_id, trace_id; filtered_attributes
abbrev pub of_exemplar : ℕ → Kind
of_exemplar n =
    if n == 2 || n == 3 || n == 6 then Fixed64
    else (if n == 4 || n == 5 then Bytes else (if n == 7 then Inner message.KeyValue else Unknown))

-- string_value, bool_value, int_value, double_value, array_value, kvlist_value, bytes_value
abbrev pub of_value : ℕ → Kind
of_value n =
    if n == 1 then Text
    else (if n == 2 || n == 3 then Varint
    else (if n == 4 then Fixed64
    else (if n == 5 then Inner message.ArrayValue
    else (if n == 6 then Inner message.KeyValueList else (if n == 7 then Bytes else Unknown)))))

unfoldable pub kind_of : Message → ℕ → Kind
kind_of message.Request n = list_of message.ResourceMetrics n
-- resource, scope_metrics; instrumentation_library_metrics
kind_of message.ResourceMetrics n =
    if n == 1 then Inner message.Resource
    else (if n == 2 then Inner message.ScopeMetrics else (if n == 1000 then Old else Unknown))
kind_of message.Resource n = list_of message.KeyValue n
-- scope, metrics
kind_of message.ScopeMetrics n =
    if n == 1 then Inner message.Scope else (if n == 2 then Inner message.Metric else Unknown)
-- name, version, attributes
kind_of message.Scope n =
    if n == 1 || n == 2 then Text else (if n == 3 then Inner message.KeyValue else Unknown)
kind_of message.Metric n = of_metric n
kind_of message.OtherData n = list_of message.OtherPoint n
kind_of message.OtherPoint n = Unknown
kind_of message.Sum n = of_sum n
kind_of message.NumberPoint n = of_number_point n
kind_of message.Histogram n = of_histogram n
kind_of message.HistogramPoint n = of_histogram_point n
kind_of message.Exemplar n = of_exemplar n
-- key, value
kind_of message.KeyValue n =
    if n == 1 then Text else (if n == 2 then Inner message.AnyValue else Unknown)
kind_of message.AnyValue n = of_value n
kind_of message.ArrayValue n = list_of message.AnyValue n
kind_of message.KeyValueList n = list_of message.KeyValue n
