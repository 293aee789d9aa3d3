-- The wire format of protobuf: what the bytes of a message say of its fields.
use Rattle.std.specs.Prelude.{ℕ, zero, suc, ◌+◌, ◌-◌, ◌*◌, ◌/◌, ◌%◌, ◌^◌, ◌==◌, nat_lt, nat_le}
use Rattle.std.specs.Prelude.{if◌then◌else◌, List, [], ◌∷◌, length, take, drop}
use Rattle.std.specs.Prelude.{Option, Some, None, Result, Ok, Err}
use Rattle.std.specs.Int.{w32, w64, from_le_bytes}
use Rattle.otlp_protobuf.specs.declared.malformed.Malformed.{Malformed}
use Rattle.otlp_protobuf.specs.declared.malformed.Malformed.TheVariants.{Cut, LongNumber, NoNumber}
use Rattle.otlp_protobuf.specs.declared.malformed.Malformed.TheVariants.{WireType, Deep}
use Rattle.otlp_protobuf.specs.declared.wire.TheConstants.{MAX_INNER}

infixl 10 ◌>>=◌
-- the first fault ends the reading
abbrev pub ◌>>=◌ : {A B : Type 0} → Result A Malformed → (A → Result B Malformed)
    → Result B Malformed
(Ok x) >>= f = f x
(Err e) >>= f = Err e

-- a sum and the low seven bits of a byte at this weight, of at most 64 bits together
abbrev pub weighed : ℕ → ℕ → ℕ → Option ℕ
weighed byte unit sum =
    if nat_lt ((byte % 128) * unit + sum) (2 ^ 64) then Some ((byte % 128) * unit + sum) else None

-- a number from a group of seven bits on, the lowest first: this one weighs `unit`, and those
-- before it made `sum`. A byte from 128 on has another after it; the tenth is the last
unfoldable pub varint_from : ℕ → ℕ → List ℕ → Result (ℕ × List ℕ) Malformed
varint_from unit sum [] = Err Cut
varint_from unit sum (b ∷ bs) = elim (weighed b unit sum) as (λ o. Result (ℕ × List ℕ) Malformed) [
  | None ↦ Err LongNumber
  | Some value ↦ (if nat_lt b 128 then Ok (value, bs)
      else (if nat_le unit (2 ^ 56) then varint_from (unit * 128) value bs else Err LongNumber))
]

-- a number, and the bytes after it
abbrev pub varint : List ℕ → Result (ℕ × List ℕ) Malformed
varint = varint_from 1 0

-- a field's key: 8 times its number, which is not 0, and its wire type; of 32 bits
unfoldable pub key : List ℕ → Result (ℕ × List ℕ) Malformed
key bytes = do
  k ← varint bytes
  if nat_lt (2 ^ 32 - 1) k.0 then Err LongNumber else (if nat_lt k.0 8 then Err NoNumber else Ok k)

-- so many bytes, and those after them
abbrev pub taken : ℕ → List ℕ → Result (List ℕ × List ℕ) Malformed
taken n bytes = if nat_lt (length bytes) n then Err Cut else Ok (take n bytes, drop n bytes)

-- a number of 8 bytes, the lowest first
abbrev pub fixed64 : List ℕ → Result (ℕ × List ℕ) Malformed
fixed64 bytes =
    if nat_lt (length bytes) 8 then Err Cut else Ok (from_le_bytes w64 (take 8 bytes), drop 8 bytes)

-- a number of 4 bytes
abbrev pub fixed32 : List ℕ → Result (ℕ × List ℕ) Malformed
fixed32 bytes =
    if nat_lt (length bytes) 4 then Err Cut else Ok (from_le_bytes w32 (take 4 bytes), drop 4 bytes)

-- how many bytes, and they themselves
unfoldable pub counted : List ℕ → Result (List ℕ × List ℕ) Malformed
counted bytes = do
  n ← varint bytes
  taken n.0 n.1

-- what a field has
pub data Value : Type 0 where
  varint_value : ℕ → Value
  fixed64_value : ℕ → Value
  bytes_value : List ℕ → Value
  group_value : Value
  fixed32_value : ℕ → Value

-- what comes after a key that begins and ends no group
unfoldable pub plain : ℕ → List ℕ → Result (Value × List ℕ) Malformed
plain k bytes =
    if k % 8 == 0 then (varint bytes >>= λ n. Ok (varint_value n.0, n.1))
    else (if k % 8 == 1 then (fixed64 bytes >>= λ n. Ok (fixed64_value n.0, n.1))
    else (if k % 8 == 2 then (counted bytes >>= λ c. Ok (bytes_value c.0, c.1))
    else (if k % 8 == 5 then (fixed32 bytes >>= λ n. Ok (fixed32_value n.0, n.1))
    else Err WireType)))

-- what is next in a group, by its key, if `inner` passes over a group of a number
abbrev pub passed : (ℕ → List ℕ → Result (List ℕ) Malformed) → ℕ → List ℕ
    → Result (List ℕ) Malformed
passed inner k bytes =
    if k % 8 == 3 then inner (k / 8) bytes else (plain k bytes >>= λ v. Ok v.1)

-- the bytes after the end of a group of this number, which has at most `left` fields and groups,
-- and in which so many more groups may be nested
unfoldable pub group_from : ℕ → ℕ → ℕ → List ℕ → Result (List ℕ) Malformed
group_from zero levels number bytes = Err Cut
group_from (suc left) levels number bytes = do
  k ← key bytes
  if k.0 % 8 == 4 then (if k.0 / 8 == number then Ok k.1 else Err WireType)
      else (passed (λ n bs. if levels == 0 then Err Deep else group_from left (levels - 1) n bs) k.0
      k.1 >>= λ rest. group_from left levels number rest)

-- what comes after a key: a group is passed over
unfoldable pub payload_at : ℕ → List ℕ → Result (Value × List ℕ) Malformed
payload_at k bytes =
    if k % 8 == 3
    then (group_from (length bytes) MAX_INNER (k / 8) bytes >>= λ rest. Ok (group_value, rest))
    else plain k bytes

-- a field
pub record Field : Type 0 where
  pub number : ℕ
  pub value : Value

-- the field at the front, and the bytes after it
unfoldable pub field_at : List ℕ → Result (Field × List ℕ) Malformed
field_at bytes = do
  k ← key bytes
  v ← payload_at k.0 k.1
  Ok (record { number = k.0 / 8; value = v.0 }, v.1)

-- a field, and those after it, if there is one
abbrev pub with_field : (List ℕ → List Field) → Result (Field × List ℕ) Malformed → List Field
with_field more (Ok f) = f.0 ∷ more f.1
with_field more (Err e) = []

-- the fields up to the first that is malformed, at most so many
unfoldable pub fields_from : ℕ → List ℕ → List Field
fields_from zero bytes = []
fields_from (suc left) bytes = with_field (λ rest. fields_from left rest) (field_at bytes)

-- the fields of a message: each has a byte and more
abbrev pub fields : List ℕ → List Field
fields bytes = fields_from (length bytes) bytes
