-- Texts that nest no deeper than a request does, and of which each number is in range.
use Rattle.std.specs.Prelude.{◌≡◌, ℕ, zero, suc, ◌<◌, List, [], ◌∷◌, Some, ⊤}
use Rattle.json.specs.Token.{Token}
use Rattle.serde_json.specs.Data.{Num}
use Rattle.serde_json.specs.Read.{number_of}
use Rattle.json_points.specs.declared.plain.TheConstants.{MAX_OPEN}

-- within so many brackets
unfoldable pub Plain : ℕ → List Token → Type 0
Plain level [] = ⊤
Plain level (Token.begin_object ∷ ts) = (level < MAX_OPEN) × Plain (suc level) ts
Plain zero (Token.end_object ∷ ts) = Plain zero ts
Plain (suc level) (Token.end_object ∷ ts) = Plain level ts
Plain level (Token.begin_array ∷ ts) = (level < MAX_OPEN) × Plain (suc level) ts
Plain zero (Token.end_array ∷ ts) = Plain zero ts
Plain (suc level) (Token.end_array ∷ ts) = Plain level ts
Plain level (Token.key s ∷ ts) = Plain level ts
Plain level (Token.string s ∷ ts) = Plain level ts
Plain level (Token.number s ∷ ts) = ((n : Num) × (number_of s ≡ Some n)) × Plain level ts
Plain level (Token.boolean b ∷ ts) = Plain level ts
Plain level (Token.null ∷ ts) = Plain level ts
Plain level (Token.bad ∷ ts) = Plain level ts
