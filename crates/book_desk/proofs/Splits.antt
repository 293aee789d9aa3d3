-- One point more is put into its part.
use Rattle.std.proofs.Common.{◌≡◌, ℕ, ◌+◌, ◌<◌, ◌==◌, Bool, true, false, if◌then◌else◌, Option}
use Rattle.std.proofs.Common.{List, [], ◌∷◌, ◌++◌, length, get_or, set, refl, sym, ap, subst, ◌∙◌}
use Rattle.std.proofs.Common.{arith, eq-eqb, ◌⊎◌, inl, inr}
use Rattle.std.proofs.lemmas.Bool.{cases_eq, eqb-true}
use Rattle.std.proofs.lemmas.List.{append-nil, get_or-set_same, get_or-set_other, length-set}
use Rattle.std.specs.List.{All}
use Rattle.metric_events.specs.DataPoint.{DataPoint}
use Rattle.book_desk.specs.declared.part.Part.{Part}
use Rattle.book_desk.specs.Homes.{home}
use Rattle.book_desk.specs.Splits.{points_in, places_in, chosen, places, IsSplit, AreSplit}

-- a list goes on as another does
both : {A : Type 0} (b : Bool) (p : A) (a c x : List A) → a ≡ c ++ x
    → (if b then p ∷ a else a) ≡ (if b then p ∷ c else c) ++ x
both true p a c x e = ap (λ z. p ∷ z) e
both false p a c x e = e

chosen_end : (n k : ℕ) (ps : List DataPoint) (p : DataPoint)
    → chosen n k (ps ++ p ∷ []) ≡ chosen n k ps ++ (if home n p.series == k then p ∷ [] else [])
chosen_end n k [] p = refl
chosen_end n k (q ∷ qs) p = both (home n q.series == k) q _ _ _ (chosen_end n k qs p)

places_more : (n k j : ℕ) (ps : List DataPoint) (p : DataPoint)
    → places n k j (ps ++ p ∷ [])
    ≡ places n k j ps ++ (if home n p.series == k then (j + length ps) ∷ [] else [])
places_more n k j [] p = ap (λ (z : ℕ). if home n p.series == k then z ∷ [] else []) (omega arith)
places_more n k j (q ∷ qs) p = both (home n q.series == k) j
    _ _ _ (places_more n k (j + 1) qs p
    ∙ ap (λ (z : ℕ). places n k (j + 1) qs ++ (if home n p.series == k then z ∷ [] else []))
    (omega arith))

places_end : (n k : ℕ) (ps : List DataPoint) (p : DataPoint) (place : ℕ) → place ≡ length ps
    → places n k 0 (ps ++ p ∷ [])
    ≡ places n k 0 ps ++ (if home n p.series == k then place ∷ [] else [])
places_end n k ps p place e = places_more n k 0 ps p
    ∙ ap (λ (z : ℕ). places n k 0 ps ++ (if home n p.series == k then z ∷ [] else [])) (omega arith)

differ : (a b : ℕ) → (a ≡ b → ⊥) → (a == b) ≡ false
differ a b n = at (a == b) refl
  where
    at : (v : Bool) → (a == b) ≡ v → (a == b) ≡ false
    at true e = absurd (n (eqb-true a b e))
    at false e = e

-- what a point adds to the part of its book
added : {A : Type 0} (b : Bool) (x : A) (xs ys : List A) → b ≡ true
    → ys ≡ xs ++ (if b then x ∷ [] else []) → ys ≡ xs ++ x ∷ []
added b x xs ys e h = h ∙ ap (λ (c : Bool). xs ++ (if c then x ∷ [] else [])) e

-- and to the others
kept : {A : Type 0} (b : Bool) (x : A) (xs ys : List A) → b ≡ false
    → ys ≡ xs ++ (if b then x ∷ [] else []) → ys ≡ xs
kept b x xs ys e h = h ∙ (ap (λ (c : Bool). xs ++ (if c then x ∷ [] else [])) e ∙ append-nil xs)

pub one_more : (parts : List (Option Part)) (to place : ℕ) (new r : Option Part)
    (ps : List DataPoint) (p : DataPoint) → AreSplit parts ps → place ≡ length ps
    → to ≡ home (length parts) p.series → to < length parts
    → points_in new ≡ points_in (get_or parts to r) ++ p ∷ []
    → places_in new ≡ places_in (get_or parts to r) ++ place ∷ []
    → AreSplit (set parts to new) (ps ++ p ∷ [])
one_more parts to place new r ps p s m h w e f =
    λ k d l. subst (λ (n : ℕ). IsSplit n k (get_or (set parts to new) k d) (ps ++ p ∷ []))
    (sym (length-set parts to new))
    (at k d (omega (arith, length-set parts to new)) (cases_eq k to))
  where
    n : ℕ
    n = length parts

    at : (k : ℕ) (d : Option Part) → k < length parts → (k ≡ to) ⊎ (k ≡ to → ⊥)
        → IsSplit n k (get_or (set parts to new) k d) (ps ++ p ∷ [])
    at k d l (inl c) =
        let g : get_or (set parts to new) k d ≡ new =
        ap (λ (j : ℕ). get_or (set parts to new) j d) c ∙ get_or-set_same parts to new d w in
        let b : (home n p.series == k) ≡ true = eq-eqb (home n p.series) k (sym (c ∙ h)) in
        let u = s k r l in
        let v : get_or parts to r ≡ get_or parts k r = ap (λ (j : ℕ). get_or parts j r) (sym c) in (
          ap points_in g ∙ (e ∙ (ap (λ (z : Option Part). points_in z ++ p ∷ []) v
              ∙ (ap (λ (z : List DataPoint). z ++ p ∷ []) (u.0)
              ∙ sym (added _ p _ _ b (chosen_end n k ps p))))),
          ap places_in g ∙ (f ∙ (ap (λ (z : Option Part). places_in z ++ place ∷ []) v
              ∙ (ap (λ (z : List ℕ). z ++ place ∷ []) (u.1)
              ∙ sym (added _ place _ _ b (places_end n k ps p place m))))),
        )
    at k d l (inr c) =
        let g : get_or (set parts to new) k d ≡ get_or parts k d =
        get_or-set_other parts to k new d c in
        let b : (home n p.series == k) ≡ false =
        differ (home n p.series) k (λ x. c (sym x ∙ sym h)) in
        let u = s k d l in (
          ap points_in g ∙ (u.0 ∙ sym (kept _ p _ _ b (chosen_end n k ps p))),
          ap places_in g ∙ (u.1 ∙ sym (kept _ place _ _ b (places_end n k ps p place m))),
        )

pub set_all : {A : Type 0} (P : A → Type 0) (xs : List A) (i : ℕ) (y : A) → All P xs → P y
    → i < length xs → All P (set xs i y)
set_all {A = A} P xs i y h p w = λ k d n. at k d (omega (arith, length-set xs i y)) (cases_eq k i)
  where
    at : (k : ℕ) (d : A) → k < length xs → (k ≡ i) ⊎ (k ≡ i → ⊥) → P (get_or (set xs i y) k d)
    at k d n (inl c) = subst (λ (j : ℕ). P (get_or (set xs i y) j d)) (sym c)
        (subst P (sym (get_or-set_same xs i y d w)) p)
    at k d n (inr c) = subst P (sym (get_or-set_other xs i k y d c)) (h k d n)
