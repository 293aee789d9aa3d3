-- Where the numbers of a field are.
use Rattle.std.specs.Prelude.{◌≡◌, ℕ, ◌++◌, List, Option, Some, None}
use Rattle.std.specs.Borrow.{Bor}
use Rattle.otlp_protobuf.specs.Fields.{packed}

-- all are those that are packed in these bytes, and those after them; or nothing is known of them
abbrev pub IsSpot : Option (Bor (List ℕ)) → List ℕ → List ℕ → Type 0
IsSpot None after all = Unit {0}
IsSpot (Some b) after all = packed b.now ++ after ≡ all
