-- Resource, scope and metric, without the references.
use Rattle.std.specs.Prelude.{ℕ, ◌%◌, ◌^◌, ◌==◌, not, if◌then◌else◌, List, Bool, false}
use Rattle.std.specs.Prelude.{Option, Some, None, option_map}
use Rattle.serde_json.specs.Data.{string}
use Rattle.series_id.specs.declared.attributes.Attribute.{Attribute}
use Rattle.otlp_protobuf.specs.declared.streams.Resource.{Resource as BorrowedResource}
use Rattle.otlp_protobuf.specs.declared.streams.Scope.{Scope as BorrowedScope}
use Rattle.otlp_protobuf.specs.declared.streams.Stream.{Stream as BorrowedStream}
use Rattle.otlp_protobuf.specs.declared.streams.SumStream.{SumStream as BorrowedSumStream}
use Rattle.otlp_protobuf.specs.Wire.{Value}
use Rattle.otlp_protobuf.specs.Fields.{bits, last, text_at}
use Rattle.otlp_read.specs.Fields.{text_in}
use Rattle.otlp_read.specs.Lists.{◌>>=◌}
use Rattle.otlp_read.specs.Streams.{Scope, Stream, SumStream}

abbrev pub resource_data : BorrowedResource → List Attribute
resource_data r = r.attributes.now.set

abbrev pub scope_data : BorrowedScope → Scope
scope_data s = record {
  resource = s.resource.now.set;
  name = s.name.now;
  version = s.version.now;
  attributes = s.attributes.now;
}

abbrev pub stream_data : BorrowedStream → Stream
stream_data s = record { scope = scope_data s.scope; name = s.name.now; unit = s.unit.now }

abbrev pub sum_stream_data : BorrowedSumStream → SumStream
sum_stream_data s = record { stream = stream_data s.stream; monotonic = s.monotonic }

-- ---- as `otlp_read` reads them, of the values that the bytes have

abbrev pub scope_from : Option (List Attribute) → List ℕ → Option (List Attribute) → Option Scope
scope_from resource scope attributes = do
  above ← resource
  name ← text_in (option_map string (text_at 1 scope))
  version ← text_in (option_map string (text_at 2 scope))
  own ← attributes
  Some (record { resource = above; name = name; version = version; attributes = own })

-- a metric, whose data may have delta temporality
abbrev pub stream_from : Option Scope → List ℕ → Bool → Option Stream
stream_from scope metric delta = do
  above ← scope
  name ← text_in (option_map string (text_at 1 metric))
  unit ← text_in (option_map string (text_at 3 metric))
  if delta then Some (record { scope = above; name = name; unit = unit }) else None

abbrev pub delta_from : Option Value → Bool
delta_from None = false
delta_from (Some v) = bits v % 2 ^ 32 == 1

abbrev pub truth_from : Option Value → Bool
truth_from None = false
truth_from (Some v) = not (bits v == 0)

abbrev pub sum_stream_from : Option Scope → List ℕ → List ℕ → Option SumStream
sum_stream_from scope metric sum = do
  stream ← stream_from scope metric (delta_from (last 2 sum))
  Some (record { stream = stream; monotonic = truth_from (last 3 sum) })

abbrev pub histogram_stream_from : Option Scope → List ℕ → List ℕ → Option Stream
histogram_stream_from scope metric histogram =
    stream_from scope metric (delta_from (last 2 histogram))
