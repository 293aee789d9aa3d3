-- The first piece of a text, and the rest.
use Rattle.std.proofs.Common.{◌≡◌, ℕ, ◌+◌, ◌<◌, Bool, false, List, [], ◌∷◌, length, take, drop}
use Rattle.std.proofs.Common.{Some, None, refl, ap, ◌∙◌, inl, inr, arith}
use Rattle.std.specs.List.{slice_split, position, position_or_len}
use Rattle.std.proofs.lemmas.Bool.{cases_lt, lt-ltb, cond-true}
use Rattle.std.proofs.lemmas.List.Splits.{slice_split_first, slice_split_none, length-slice_split}
use Rattle.std.proofs.lemmas.List.Sums.{fails_before_first}
use Rattle.std.proofs.lemmas.List.Elements.{All-from_get_or}
use Rattle.play_script.specs.Pieces.{without_empty_last}

pub split_some : (p : ℕ → Bool) (xs : List ℕ) (at : ℕ) → position p xs ≡ Some at
    → slice_split p xs ≡ take at xs ∷ slice_split p (drop (at + 1) xs)
split_some p xs at h =
    elim (cases_lt (position_or_len p xs) (length xs)) [
      | inl within ↦
          let found : position p xs ≡ Some (position_or_len p xs) =
          cond-true _ _ _ (lt-ltb _ _ within) in
          let same : position_or_len p xs ≡ at = cc in
          slice_split_first p xs 0 within
          ∙ ap (λ n. take n xs ∷ slice_split p (drop (n + 1) xs)) same
      | inr past ↦
          let none : position p xs ≡ None = grind arith in
          cc
    ]

pub split_none : (p : ℕ → Bool) (xs : List ℕ) → position p xs ≡ None → slice_split p xs ≡ xs ∷ []
split_none p xs h =
    elim (cases_lt (position_or_len p xs) (length xs)) [
      | inl within ↦
          let found : position p xs ≡ Some (position_or_len p xs) =
          cond-true _ _ _ (lt-ltb _ _ within) in
          cc
      | inr past ↦ slice_split_none p xs
          (All-from_get_or (λ x. p x ≡ false) xs 0
          (λ i h. fails_before_first p xs i 0 (omega arith)))
    ]

-- a piece before others is kept
more_follow : (first : List ℕ) (ps : List (List ℕ)) → 0 < length ps
    → without_empty_last (first ∷ ps) ≡ first ∷ without_empty_last ps
more_follow first [] h = absurd (omega arith)
more_follow [] (q ∷ qs) h = refl
more_follow (b ∷ bs) (q ∷ qs) h = refl

pub first_kept : (p : ℕ → Bool) (first rest : List ℕ) (all : List (List ℕ))
    → all ≡ first ∷ slice_split p rest
    → without_empty_last all ≡ first ∷ without_empty_last (slice_split p rest)
first_kept p first rest all h = ap without_empty_last h
    ∙ more_follow first (slice_split p rest) (omega (arith, length-slice_split p rest))
