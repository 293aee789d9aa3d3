-- Attributes and their values (`KeyValue`, `AnyValue`, `ArrayValue`) as JSON. What is in a map, in
-- bytes, or in a list in a list is left out: no series may have them, whatever is in them.
use Rattle.std.specs.Prelude.{ℕ, ◌==◌, ◌++◌, nat_lt, not, if◌then◌else◌, List, [], map, codes}
use Rattle.std.specs.Prelude.{Option, Some, None, option_map}
use Rattle.std.specs.Int.{w64, cast_signed}
use Rattle.serde_json.specs.Data.{Data, null, boolean, string, object, Members, member, no_members}
use Rattle.otlp_protobuf.specs.Wire.{Value, Field, fields}
use Rattle.otlp_protobuf.specs.Fields.{gathered, bits, content, so_far, text_of, text_at, contents}
use Rattle.otlp_protobuf.specs.Fields.{whole_at}
use Rattle.otlp_protobuf.specs.Members.{or_null, signed_data, double_data, list_data}

-- a value has one of its fields, which have the numbers 1 to 7: the last one
abbrev pub newest : Option Field → Field → Option Field
newest found f = if nat_lt f.number 8 then Some f else found

abbrev pub chosen : List ℕ → Option Field
chosen bytes = gathered newest None (fields bytes)

-- a list may come in parts, with no other of these fields between them
abbrev pub take_list : Option (List ℕ) → Field → Option (List ℕ)
take_list found f =
    if nat_lt f.number 8
    then (if f.number == 5 then Some (so_far found ++ so_far (content f.value)) else None)
    else found

abbrev pub list_of : List ℕ → List ℕ
list_of bytes = so_far (gathered take_list None (fields bytes))

-- a member that is there if the chosen field is its own
abbrev pub if_chosen : ℕ → (Value → Data) → Option Field → Data
if_chosen n shows None = null
if_chosen n shows (Some f) = if f.number == n then shows f.value else null

-- a value, whose list has these members
unfoldable pub any_of : Members → Option Field → Data
any_of list found = object (
    member (codes "stringValue")
    (if_chosen 1 (λ v. or_null (option_map string (text_of v))) found) (
    member (codes "boolValue") (if_chosen 2 (λ v. boolean (not (bits v == 0))) found) (
    member (codes "intValue") (if_chosen 3 (λ v. signed_data (cast_signed w64 (bits v))) found) (
    member (codes "doubleValue") (if_chosen 4 (λ v. double_data (bits v)) found) (
    member (codes "arrayValue") (if_chosen 5 (λ v. object list) found) (
    member (codes "kvlistValue") (if_chosen 6 (λ v. object no_members) found) (
    member (codes "bytesValue") (if_chosen 7 (λ v. string []) found) no_members)))))))

-- a value in a list
abbrev pub single_value : List ℕ → Data
single_value bytes = any_of no_members (chosen bytes)

-- the members of a list
abbrev pub array_members : List ℕ → Members
array_members bytes =
    member (codes "values") (list_data (map single_value (contents 1 (fields bytes)))) no_members

abbrev pub any_value : List ℕ → Data
any_value bytes = any_of (array_members (list_of bytes)) (chosen bytes)

-- an attribute
unfoldable pub key_value : List ℕ → Data
key_value bytes = object (
    member (codes "key") (or_null (option_map string (text_at 1 bytes))) (
    member (codes "value") (or_null (option_map any_value (whole_at 2 bytes))) no_members))
