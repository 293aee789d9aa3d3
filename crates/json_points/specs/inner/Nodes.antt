-- What `serde_json` makes of a value on a tape.
use Rattle.std.specs.Prelude.{◌≡◌, List, length, Some, option_map}
use Rattle.std.specs.Prelude.{option_and_then, unwrap_or}
use Rattle.json.specs.Token.{Token}
use Rattle.json.specs.Json as json
use Rattle.json.specs.Json.{Json, value}
use Rattle.json.specs.Find.{BeginsWith, InItems, InMembers}
use Rattle.serde_json.specs.Data.{Data, Members, null, object}
use Rattle.serde_json.specs.Read.{of_json, of_items, of_members}
use Rattle.otlp_read.specs.Containers.{elements}

-- the value with which these tokens begin, as data; null where `serde_json` reads none
unfoldable pub data_at : List Token → Data
data_at ts = unwrap_or (option_and_then (λ p. of_json p.0) (value (length ts) ts)) null

-- a value begins here that `serde_json` reads
pub record IsNode (ts : List Token) : Type 0 where
  pub json : Json
  pub begins : BeginsWith ts json
  pub says : of_json json ≡ Some (data_at ts)

-- the items of an array from here on are these data
pub record AreItems (ts : List Token) (ds : List Data) : Type 0 where
  pub items : json.Items
  pub inside : InItems ts items
  pub says : option_map elements (of_items items) ≡ Some ds

-- the items of an array from here on are values that `serde_json` reads
abbrev pub HasItems : List Token → Type 0
HasItems ts = (ds : List Data) × AreItems ts ds

-- the members of an object from here on, put in after those before, make these data
pub record AreMembers (ts : List Token) (before : Members) (d : Data) : Type 0 where
  pub members : json.Members
  pub inside : InMembers ts members
  pub says : option_map object (of_members members before) ≡ Some d

-- the members of an object from here on are values that `serde_json` reads
abbrev pub HasMembers : List Token → Type 0
HasMembers ts = (before : Members) × (d : Data) × AreMembers ts before d
