-- Attribute lists: arrays of objects with a key and a value (`KeyValue` of the standard).
use Rattle.std.specs.Prelude.{ℕ, List, if◌then◌else◌, Option, Some, None, option_and_then, codes}
use Rattle.serde_json.specs.Data.{Data}
use Rattle.series_id.specs.declared.attributes.Attribute.{Attribute}
use Rattle.series_id.specs.declared.values.AttrValue.{AttrValue}
use Rattle.series_id.specs.Pairs.{attr_refusal}
use Rattle.series_id.specs.Sorting.{sorted_by_key}
use Rattle.otlp_read.specs.Rules.{unless}
use Rattle.otlp_read.specs.Fields.{field, text_in}
use Rattle.otlp_read.specs.Containers.{is_object}
use Rattle.otlp_read.specs.Lists.{◌>>=◌, list_in}
use Rattle.otlp_read.specs.Values.{value_in}

-- the key, a text within the limit, and the value
abbrev pub key_and_value : Data → Option (List ℕ × AttrValue)
key_and_value d = do
  key ← text_in (field (codes "key") d)
  value ← value_in (field (codes "value") d)
  Some (key, value)

-- an element of an attribute list, which is an object
unfoldable pub pair_of : Data → Option (List ℕ × AttrValue)
pair_of d = if is_object d then key_and_value d else None

-- the set of the pairs: not too many, with short texts and lists, no key twice
unfoldable pub set_of : List (List ℕ × AttrValue) → Option (List Attribute)
set_of pairs = unless (attr_refusal pairs) (sorted_by_key pairs)

-- an attribute list; absent is the empty set
unfoldable pub attributes_in : Option Data → Option (List Attribute)
attributes_in found = option_and_then set_of (list_in pair_of found)
