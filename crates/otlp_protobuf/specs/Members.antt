-- Members of the JSON mapping. A field that is absent is null, which counts as absent: so an object
-- has all members that its message may have.
use Rattle.std.specs.Prelude.{ℕ, ℤ, List, [], ◌∷◌, Option, Some, None}
use Rattle.std.specs.Float.{binary64}
use Rattle.std.specs.Float.Ieee.{of_bits}
use Rattle.serde_json.specs.Data.{Data, null, number, array, unsigned, float, Items, no_items}
use Rattle.serde_json.specs.Data.{item}
use Rattle.serde_json.specs.Find.{of_integer}
use Rattle.otlp_protobuf.specs.Doubles.{whole_double}

-- a value that may be absent
abbrev pub or_null : Option Data → Data
or_null None = null
or_null (Some d) = d

-- numbers, of 64 bits too, are numbers, and no texts
abbrev pub unsigned_data : ℕ → Data
unsigned_data n = number (unsigned n)

abbrev pub signed_data : ℤ → Data
signed_data z = number (of_integer z)

-- a double that is a whole number is that number
abbrev pub number_data : ℕ → Option ℤ → Data
number_data bits None = number (float (of_bits binary64 bits))
number_data bits (Some z) = signed_data z

abbrev pub double_data : ℕ → Data
double_data bits = number_data bits (whole_double bits)

abbrev pub items : List Data → Items
items [] = no_items
items (d ∷ ds) = item d (items ds)

-- a list, which is there also if it is empty
abbrev pub list_data : List Data → Data
list_data ds = array (items ds)
