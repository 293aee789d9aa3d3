-- What a field has, and the fields that are left of a message, without the references; and results.
use Rattle.std.specs.Prelude.{◌≡◌, ℕ, List, Option, Some, None, Result, Ok, Err}
use Rattle.otlp_protobuf.specs.declared.malformed.Malformed.{Malformed}
use Rattle.otlp_protobuf.specs.declared.scan.Whole.{Whole}
use Rattle.otlp_protobuf.specs.declared.scan.Whole.TheVariants as found
use Rattle.otlp_protobuf.specs.declared.fields.Field.{Field as BorrowedField}
use Rattle.otlp_protobuf.specs.declared.fields.Fields.{Fields}
use Rattle.otlp_protobuf.specs.declared.wire.Payload.{Payload}
use Rattle.otlp_protobuf.specs.declared.wire.Payload.TheVariants as payload
use Rattle.otlp_protobuf.specs.Wire.{Value, varint_value, fixed64_value, bytes_value, group_value}
use Rattle.otlp_protobuf.specs.Wire.{fixed32_value, Field, fields_from}

-- the function's result, seen by view, is what the bytes say
abbrev pub Gives : {X Y : Type 0} → (X → Y) → Result X Malformed → Result Y Malformed → Type 0
Gives view (Ok x) read = read ≡ Ok (view x)
Gives view (Err e) read = read ≡ Err e

abbrev pub payload_data : Payload → Value
payload_data (payload.Varint n) = varint_value n
payload_data (payload.Fixed64 n) = fixed64_value n
payload_data (payload.Bytes b) = bytes_value b.now
payload_data payload.Group = group_value
payload_data (payload.Fixed32 n) = fixed32_value n

abbrev pub field_data : BorrowedField → Field
field_data f = record { number = f.number; value = payload_data f.payload }

abbrev pub fields_data : Fields → List Field
fields_data f = fields_from f.left f.rest.now

abbrev pub whole_data : Whole → Option (List ℕ)
whole_data found.Absent = None
whole_data (found.Slice b) = Some b.now
whole_data (found.Joined v) = Some v.items
