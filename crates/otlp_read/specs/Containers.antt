-- Containers: objects, arrays of objects, and the error for one of another type.
use Rattle.std.specs.Prelude.{List, [], ◌∷◌, Bool, if◌then◌else◌, Option, Some, None, is_some}
use Rattle.std.specs.Prelude.{Result, Ok, Err}
use Rattle.std.specs.List.{list_all}
use Rattle.serde_json.specs.Data.{Data, Items, no_items, item}
use Rattle.serde_json.specs.Find.{as_object, as_array}
use Rattle.otlp_read.specs.declared.place.Place.{Place}

infixl 10 ◌>>=◌
-- the first wrong container ends the walk
abbrev pub ◌>>=◌ : {A B : Type 0} → Result A Place → (A → Result B Place) → Result B Place
(Ok x) >>= f = f x
(Err e) >>= f = Err e

-- the elements of an array in order
abbrev pub elements : Items → List Data
elements no_items = []
elements (item d ds) = d ∷ elements ds

-- whether a value is an object
abbrev pub is_object : Data → Bool
is_object d = is_some (as_object d)

-- the elements of an array, if all of them are objects
abbrev pub each_object : Place → Option Items → Result (List Data) Place
each_object place None = Err place
each_object place (Some ds) =
    if list_all is_object (elements ds) then Ok (elements ds) else Err place

-- an array of objects; an absent one has no elements
unfoldable pub objects : Place → Option Data → Result (List Data) Place
objects place None = Ok []
objects place (Some d) = each_object place (as_array d)

-- an object, which may be absent
unfoldable pub object_in : Place → Option Data → Result (Option Data) Place
object_in place None = Ok None
object_in place (Some d) = if is_object d then Ok (Some d) else Err place
