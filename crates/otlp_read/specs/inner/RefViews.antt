-- Fields, attributes and single values of them, without the references.
use Rattle.std.specs.Prelude.{◌≡◌, ℕ, List, Option, option_map, String}
use Rattle.std.specs.Borrow.{Bor}
use Rattle.std.specs.declared.alloc.Global.{Global}
use Rattle.serde_json.specs.Data.{Data, object}
use Rattle.serde_json.specs.declared.value.Value.{Value}
use Rattle.serde_json.specs.View.{view, members_view}
use Rattle.series_id.specs.declared.scalars.Scalar.{Scalar}
use Rattle.series_id.specs.declared.scalars.Scalar.TheVariants as scalars
use Rattle.series_id.specs.declared.values.AttrValue.{AttrValue}
use Rattle.series_id.specs.declared.values.AttrValue.TheVariants.{One}
use Rattle.otlp_read.specs.Fields.{field}
use Rattle.otlp_read.specs.declared.scalar_ref.ScalarRef.{ScalarRef}
use Rattle.otlp_read.specs.declared.scalar_ref.ScalarRef.TheVariants.{Empty, Truth, Int, Text}
use Rattle.otlp_read.specs.declared.scalar_ref.PairRef.{PairRef}

-- a field that may be absent
abbrev pub found_data : Option (Bor Value) → Option Data
found_data found = option_map (λ v. view v.now) found

-- what is found in members at a name
abbrev pub IsMember : List (String Global × Value) → List ℕ → Option (Bor Value) → Type 0
IsMember members name found = found_data found ≡ field name (object (members_view members))

-- a single value
abbrev pub scalar_data : ScalarRef → Scalar
scalar_data Empty = scalars.Empty
scalar_data (Truth b) = scalars.Truth b
scalar_data (Int n) = scalars.Int n
scalar_data (Text t) = scalars.Text t.now

-- an attribute with a single value
abbrev pub pair_data : PairRef → (List ℕ × AttrValue)
pair_data p = (p.key.now, One (scalar_data p.value))
