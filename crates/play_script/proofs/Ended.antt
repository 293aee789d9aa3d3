-- What was read of a source and written to a sink, call by call.
use Rattle.std.proofs.Common.{◌≡◌, ℕ, ◌+◌, ◌-◌, ◌≤◌, take, drop, List, ◌++◌, length, Option, Some}
use Rattle.std.proofs.Common.{None, sym, ap, ◌∙◌, append_assoc, length-take-le, arith}
use Rattle.std.specs.Io.KnownBytes.{Consumes, Appends}
use Rattle.std.proofs.lemmas.List.{take-append-drop, take_rest}

pub consumed : (old mid new : Option (List ℕ)) (xs ys : List ℕ) → Consumes old mid xs
    → Consumes mid new ys → Consumes old new (xs ++ ys)
consumed None mid new xs ys h k = tt
consumed (Some a) None new xs ys h k = absurd h
consumed (Some a) (Some b) None xs ys h k = absurd k
consumed (Some a) (Some b) (Some c) xs ys h k = h ∙ ap (λ m. xs ++ m) k ∙ simp append_assoc

-- how far an input was read, where n bytes came last
pub stopped : (Passes : ℕ → Type 0) (old mid new : Option (List ℕ)) (given n : ℕ)
    (before buf : List ℕ) → Consumes old mid before → Consumes mid new (take n buf) → n ≤ length buf
    → length buf ≡ 4096 → given ≡ n → length before ≤ 16777216 → Passes (length before + given)
    → (b : List ℕ) × (last : List ℕ) × Consumes old new (b ++ last) × (length last ≡ given)
    × (given ≤ 4096) × (length b ≤ 16777216) × Passes (length b + given)
stopped Passes old mid new given n before buf known took within len is short passes = (
  before,
  take n buf,
  consumed old mid new before (take n buf) known took,
  length-take-le n buf
      within ∙ sym is,
  omega arith,
  short,
  passes,
)

pub appended : (old mid new : Option (List ℕ)) (xs ys : List ℕ) → Appends old mid xs
    → Appends mid new ys → Appends old new (xs ++ ys)
appended None mid new xs ys h k = tt
appended (Some a) None new xs ys h k = absurd h
appended (Some a) (Some b) None xs ys h k = absurd k
appended (Some a) (Some b) (Some c) xs ys h k = k ∙ ap (λ m. m ++ ys) h ∙ simp append_assoc

-- what is left after a part of the rest was written
pub rest_written : (text done rest : List ℕ) (n : ℕ) → done ++ rest ≡ text
    → (done ++ take n rest) ++ take (length rest - n) (drop n rest) ≡ text
rest_written text done rest n h =
    ap (λ m. (done ++ take n rest) ++ m) (take_rest rest n)
    ∙ append_assoc done (take n rest) (drop n rest)
    ∙ ap (λ m. done ++ m) (take-append-drop n rest) ∙ h
