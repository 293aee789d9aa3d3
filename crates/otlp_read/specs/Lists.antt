-- Arrays, each element read in the same way.
use Rattle.std.specs.Prelude.{List, [], ◌∷◌, Option, Some, None, option_map, option_and_then}
use Rattle.serde_json.specs.Data.{Data}
use Rattle.serde_json.specs.Find.{as_array}
use Rattle.otlp_read.specs.Containers.{elements}

-- the second reads what the first has found; a step with an arrow is written for it
infixl 10 ◌>>=◌
abbrev pub ◌>>=◌ : {A B : Type 0} → Option A → (A → Option B) → Option B
o >>= f = option_and_then f o

-- all elements read, if each of them reads
unfoldable pub all_of : {A : Type 0} → (Data → Option A) → List Data → Option (List A)
all_of reads [] = Some []
all_of reads (d ∷ ds) = do
  x ← reads d
  xs ← all_of reads ds
  Some (x ∷ xs)

-- the elements of an array; an absent one has none
unfoldable pub elements_in : Option Data → Option (List Data)
elements_in None = Some []
elements_in (Some d) = option_map elements (as_array d)

-- an array, each element read; an absent one is empty
abbrev pub list_in : {A : Type 0} → (Data → Option A) → Option Data → Option (List A)
list_in reads found = option_and_then (all_of reads) (elements_in found)
