-- The lines of a script, and the words of a line.
use Rattle.std.specs.Prelude.{ℕ, ◌==◌, List, [], ◌∷◌}
use Rattle.std.specs.List.{slice_split}
use Rattle.play_script.specs.declared.pieces.TheConstants.{LINE_FEED, SPACE}

-- what is between the bytes of this value
abbrev pub pieces : ℕ → List ℕ → List (List ℕ)
pieces mark bytes = slice_split (λ b. b == mark) bytes

-- all but a last piece that is empty
abbrev pub without_empty_last : List (List ℕ) → List (List ℕ)
without_empty_last [] = []
without_empty_last ([] ∷ []) = []
without_empty_last ((b ∷ bs) ∷ []) = (b ∷ bs) ∷ []
without_empty_last (piece ∷ next ∷ more) = piece ∷ without_empty_last (next ∷ more)

-- the lines of a text: a last one without a line feed counts where it is not empty
abbrev pub lines : List ℕ → List (List ℕ)
lines text = without_empty_last (pieces LINE_FEED text)

-- the words of a line: what is between its spaces, which may be empty
abbrev pub words : List ℕ → List (List ℕ)
words line = pieces SPACE line
