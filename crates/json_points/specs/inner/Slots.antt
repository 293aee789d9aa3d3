-- Fields and lists that were looked up, without the tape.
use Rattle.std.specs.Prelude.{◌≡◌, List, [], Option, Some, None, option_map}
use Rattle.json.specs.Token.{Token}
use Rattle.serde_json.specs.Data.{Data}
use Rattle.json_points.specs.inner.Nodes.{data_at, AreItems}

-- a field that may be absent
abbrev pub slot_data : Option (List Token) → Option Data
slot_data found = option_map data_at found

-- the elements of a list, which are none where it is absent
abbrev pub IsList : Option (List Token) → List Data → Type 0
IsList None ds = ds ≡ []
IsList (Some ts) ds = AreItems ts ds
