-- What the fields of one number say: the last value of a number or a text, the contents of a list
-- of messages, and the message that comes in parts.
use Rattle.std.specs.Prelude.{ℕ, zero, suc, ◌/◌, ◌%◌, ◌^◌, ◌==◌, if◌then◌else◌, List, [], ◌∷◌, ◌++◌}
use Rattle.std.specs.Prelude.{length, take, drop, Option, Some, None, option_and_then}
use Rattle.std.specs.Int.{w64, from_le_bytes}
use Rattle.std.specs.Str.{is_utf8}
use Rattle.otlp_protobuf.specs.Wire.{Value, varint_value, fixed64_value, bytes_value}
use Rattle.otlp_protobuf.specs.Wire.{Field, fields}

-- what all fields say, each taken after those before it
abbrev pub gathered : {A : Type 0} → (A → Field → A) → A → List Field → A
gathered takes a [] = a
gathered takes a (f ∷ fs) = gathered takes (takes a f) fs

-- the value of a field of this number, if it is one, else what was found before
abbrev pub newer : ℕ → Option Value → Field → Option Value
newer n found f = if f.number == n then Some f.value else found

-- the last value of this number
abbrev pub last : ℕ → List ℕ → Option Value
last n bytes = gathered (newer n) None (fields bytes)

-- the bits of a number, of which there are 64
abbrev pub bits : Value → ℕ
bits (varint_value n) = n % 2 ^ 64
bits (fixed64_value n) = n % 2 ^ 64
bits v = 0

-- the bytes of a text, a message or of packed numbers
abbrev pub content : Value → Option (List ℕ)
content (bytes_value b) = Some b
content v = None

-- bytes that are UTF-8
abbrev pub if_text : List ℕ → Option (List ℕ)
if_text b = if is_utf8 b then Some b else None

-- a text
abbrev pub text_of : Value → Option (List ℕ)
text_of v = option_and_then if_text (content v)

-- the text of this number
abbrev pub text_at : ℕ → List ℕ → Option (List ℕ)
text_at n bytes = option_and_then text_of (last n bytes)

-- the bytes of a field of this number
abbrev pub content_at : ℕ → Field → Option (List ℕ)
content_at n f = if f.number == n then content f.value else None

-- a first one, if it is there
abbrev pub with_first : Option (List ℕ) → List (List ℕ) → List (List ℕ)
with_first None bs = bs
with_first (Some b) bs = b ∷ bs

-- the bytes of the fields of this number, in order
unfoldable pub contents : ℕ → List Field → List (List ℕ)
contents n [] = []
contents n (f ∷ fs) = with_first (content_at n f) (contents n fs)

-- the parts so far, none if there is none
abbrev pub so_far : Option (List ℕ) → List ℕ
so_far None = []
so_far (Some b) = b

-- a message that comes in these parts, after what there is of it
abbrev pub joined : Option (List ℕ) → List (List ℕ) → Option (List ℕ)
joined found [] = found
joined found (b ∷ bs) = joined (Some (so_far found ++ b)) bs

-- the message of this number: of several parts, their bytes one after the other
abbrev pub whole_at : ℕ → List ℕ → Option (List ℕ)
whole_at n bytes = joined None (contents n (fields bytes))

-- numbers of 8 bytes, one after the other, so many of them
unfoldable pub packed_from : ℕ → List ℕ → List ℕ
packed_from zero bytes = []
packed_from (suc left) bytes = from_le_bytes w64 (take 8 bytes) ∷ packed_from left (drop 8 bytes)

abbrev pub packed : List ℕ → List ℕ
packed bytes = packed_from (length bytes / 8) bytes

-- a single number, or packed ones
abbrev pub numbers_of : Value → List ℕ
numbers_of (fixed64_value n) = n ∷ []
numbers_of (bytes_value b) = packed b
numbers_of v = []

-- the numbers of a field of this number
abbrev pub numbers_at : ℕ → Field → List ℕ
numbers_at n f = if f.number == n then numbers_of f.value else []

-- the numbers of all fields of this number, in order
unfoldable pub numbers : ℕ → List Field → List ℕ
numbers n [] = []
numbers n (f ∷ fs) = numbers_at n f ++ numbers n fs
