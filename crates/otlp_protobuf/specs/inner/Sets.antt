-- Attribute sets, by the messages of their attributes.
use Rattle.std.specs.Prelude.{ℕ, List, map, Option, Some}
use Rattle.serde_json.specs.Data.{Data}
use Rattle.series_id.specs.declared.attributes.Attribute.{Attribute}
use Rattle.otlp_read.specs.Attributes.{attributes_in}
use Rattle.otlp_protobuf.specs.Members.{list_data}
use Rattle.otlp_protobuf.specs.Values.{key_value}

-- the list that these messages say
abbrev pub said_list : List (List ℕ) → Option Data
said_list messages = Some (list_data (map key_value messages))

-- the set that they say, if a series may have it
abbrev pub set_said : List (List ℕ) → Option (List Attribute)
set_said messages = attributes_in (said_list messages)
