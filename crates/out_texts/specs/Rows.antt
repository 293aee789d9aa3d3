-- Rows of words in reports and replies.
use Rattle.std.specs.Prelude.{ℕ, List, [], ◌∷◌, ◌++◌, decimal, flat_map}

-- the texts of a list, with this byte in between
abbrev pub joined : {X : Type 0} → ℕ → (X → List ℕ) → List X → List ℕ
joined mark text [] = []
joined mark text (x ∷ xs) = text x ++ flat_map (λ y. mark ∷ text y) xs

-- words with commas in between
unfoldable pub row_text : List ℕ → List ℕ
row_text words = joined 44 decimal words

-- a label and a row
unfoldable pub labeled_row : List ℕ → List ℕ → List ℕ
labeled_row label row = label ++ row_text row
