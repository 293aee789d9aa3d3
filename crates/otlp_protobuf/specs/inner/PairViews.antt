-- Values and attributes, by what their fields have.
use Rattle.std.specs.Prelude.{ℕ, ◌==◌, cond, Bool, false, List, Option, Some, None, option_map}
use Rattle.serde_json.specs.Data.{string, object, Members}
use Rattle.series_id.specs.declared.scalars.Scalar.TheVariants.{Empty}
use Rattle.series_id.specs.declared.values.AttrValue.{AttrValue}
use Rattle.series_id.specs.declared.values.AttrValue.TheVariants.{One, Many}
use Rattle.otlp_read.specs.Fields.{text_in}
use Rattle.otlp_read.specs.Lists.{◌>>=◌}
use Rattle.otlp_read.specs.Values.{scalars_of, value_in}
use Rattle.otlp_protobuf.specs.Wire.{Field}
use Rattle.otlp_protobuf.specs.Values.{any_value}
use Rattle.otlp_protobuf.specs.inner.RefViews.{scalar_at}

-- whether a value is a list
abbrev pub is_list : Option Field → Bool
is_list None = false
is_list (Some f) = f.number == 5

-- a value whose list has these members
abbrev pub value_chosen : Members → Option Field → Option AttrValue
value_chosen list None = Some (One Empty)
value_chosen list (Some f) =
    cond (f.number == 5) (option_map Many (scalars_of (object list)))
    (option_map One (scalar_at f.number f.value))

-- an attribute of a key and the bytes of a value, which may be absent
abbrev pub pair_from : Option (List ℕ) → Option (List ℕ) → Option (List ℕ × AttrValue)
pair_from key value = do
  k ← text_in (option_map string key)
  v ← value_in (option_map any_value value)
  Some (k, v)
