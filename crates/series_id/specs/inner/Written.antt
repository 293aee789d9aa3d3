-- The bytes that say all of an identity, so that no two identities are written alike.
use Rattle.std.specs.Prelude.{ℕ, ℤ, true, false, List, [], ◌∷◌, ◌++◌, length, nat_lt, ◌+◌, ◌/◌, ◌%◌}
use Rattle.std.specs.Prelude.{if◌then◌else◌}
use Rattle.std.specs.Int.{w64, cast_unsigned, to_le_bytes}
use Rattle.std.specs.List.{flat_map}
use Rattle.series_id.specs.declared.scalars.Scalar.{Scalar}
use Rattle.series_id.specs.declared.scalars.Scalar.TheVariants.{Empty, Truth, Int, Text}
use Rattle.series_id.specs.declared.values.AttrValue.{AttrValue}
use Rattle.series_id.specs.declared.values.AttrValue.TheVariants.{One, Many}
use Rattle.series_id.specs.declared.attributes.Attribute.{Attribute}
use Rattle.series_id.specs.declared.kinds.Kind.{Kind}
use Rattle.series_id.specs.declared.kinds.Kind.TheVariants.{Sum, Histogram}
use Rattle.series_id.specs.Identity.{Identity}

-- the length of a text: a byte below 128, or two bytes
unfoldable pub length_bytes : ℕ → List ℕ
length_bytes n = if nat_lt n 128 then n ∷ [] else ((128 + n % 128) ∷ (n / 128 % 256) ∷ [])

-- a text: its length, then its bytes
unfoldable pub text_bytes : List ℕ → List ℕ
text_bytes text = length_bytes (length text) ++ text

-- an integer: the eight bytes of its 64 bits
unfoldable pub int_bytes : ℤ → List ℕ
int_bytes n = to_le_bytes w64 (cast_unsigned w64 n)

-- a scalar: a mark of its type, or of its truth, then what it has
unfoldable pub scalar_bytes : Scalar → List ℕ
scalar_bytes Empty = 0 ∷ []
scalar_bytes (Truth false) = 1 ∷ []
scalar_bytes (Truth true) = 2 ∷ []
scalar_bytes (Int n) = 3 ∷ int_bytes n
scalar_bytes (Text t) = 4 ∷ text_bytes t

-- a value: a scalar, or a mark, the count of scalars, and these
unfoldable pub value_bytes : AttrValue → List ℕ
value_bytes (One x) = scalar_bytes x
value_bytes (Many xs) = 5 ∷ (length xs % 256) ∷ flat_map scalar_bytes xs

-- an attribute: its key, then its value
unfoldable pub attribute_bytes : Attribute → List ℕ
attribute_bytes a = text_bytes a.key ++ value_bytes a.value

-- a set: the count of its attributes, and these
unfoldable pub set_bytes : List Attribute → List ℕ
set_bytes set = (length set % 256) ∷ flat_map attribute_bytes set

-- a kind: a mark, and of a histogram the count of its bounds, and these
unfoldable pub kind_bytes : Kind → List ℕ
kind_bytes (Sum false) = 0 ∷ []
kind_bytes (Sum true) = 1 ∷ []
kind_bytes (Histogram bounds) = 2 ∷ (length bounds % 256) ∷ flat_map int_bytes bounds

-- an identity: all of its parts in turn
unfoldable pub written : Identity → List ℕ
written x =
    set_bytes x.resource ++ (text_bytes x.scope_name ++ (text_bytes x.scope_version
    ++ (set_bytes x.scope_attrs ++ (text_bytes x.name ++ (text_bytes x.unit
    ++ (kind_bytes x.kind ++ set_bytes x.attrs))))))
