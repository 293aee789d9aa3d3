-- Whether bytes are a message: its fields are well formed, those that are known have their own wire
-- type, texts are UTF-8, and so are the messages in it, all of them.
use Rattle.std.specs.Prelude.{ℕ, zero, suc, ◌-◌, ◌%◌, ◌==◌, if◌then◌else◌, List, length, ⊤}
use Rattle.std.specs.Prelude.{Option, Some, None, Result, Ok, Err}
use Rattle.std.specs.Str.{is_utf8}
use Rattle.otlp_protobuf.specs.declared.malformed.Malformed.{Malformed}
use Rattle.otlp_protobuf.specs.declared.malformed.Malformed.TheVariants.{Cut, Deep, OtherType}
use Rattle.otlp_protobuf.specs.declared.malformed.Malformed.TheVariants.{NotText}
use Rattle.otlp_protobuf.specs.declared.malformed.Malformed.TheVariants as malformed
use Rattle.otlp_protobuf.specs.declared.schema.Message.{Message}
use Rattle.otlp_protobuf.specs.declared.schema.Kind.{Kind}
use Rattle.otlp_protobuf.specs.declared.schema.Kind.TheVariants as kind
use Rattle.otlp_protobuf.specs.declared.checks.TheConstants.{MAX_LEVELS}
use Rattle.otlp_protobuf.specs.Wire.{◌>>=◌, Value, varint_value, fixed64_value, bytes_value}
use Rattle.otlp_protobuf.specs.Wire.{field_at}
use Rattle.otlp_protobuf.specs.Schema.{kind_of}

-- the message that a field has
abbrev pub nested : Kind → Value → Option (Message × List ℕ)
nested (kind.Inner m) (bytes_value b) = Some (m, b)
nested k v = None

-- whether a field that has no message has its own wire type
abbrev pub plain_checked : Kind → Value → Result ⊤ Malformed
plain_checked kind.Unknown v = Ok tt
plain_checked kind.Old v = Err malformed.Old
plain_checked kind.Varint (varint_value n) = Ok tt
plain_checked kind.Fixed64 (fixed64_value n) = Ok tt
plain_checked kind.Packed (fixed64_value n) = Ok tt
plain_checked kind.Packed (bytes_value b) = if length b % 8 == 0 then Ok tt else Err OtherType
plain_checked kind.Text (bytes_value b) = if is_utf8 b then Ok tt else Err NotText
plain_checked kind.Bytes (bytes_value b) = Ok tt
plain_checked k v = Err OtherType

-- the same of any field, if `inner` checks a message
abbrev pub value_checked : (Message → List ℕ → Result ⊤ Malformed) → Kind → Value
    → Result ⊤ Malformed
value_checked inner k v = elim (nested k v) [
  | None ↦ plain_checked k v
  | Some m ↦ inner m.0 m.1
]

-- the rest of a message, from a field on, with so many levels of messages below it at most, and so
-- many fields
unfoldable pub checked_from : ℕ → ℕ → Message → List ℕ → Result ⊤ Malformed
checked_from zero levels m bytes = if length bytes == 0 then Ok tt else Err Cut
checked_from (suc left) levels m bytes =
    if length bytes == 0 then Ok tt else (field_at bytes >>= λ f.
    value_checked (λ n bs. if levels == 0 then Err Deep else checked_from left (levels - 1) n bs)
    (kind_of m f.0.number) f.0.value >>= λ _. checked_from left levels m f.1)

-- a message with all that is in it, at most 100 levels
abbrev pub checked : Message → List ℕ → Result ⊤ Malformed
checked m bytes = checked_from (length bytes) MAX_LEVELS m bytes
