-- The parts of what parts say are the same points.
use Rattle.std.proofs.Common.{◌≡◌, ℕ, zero, suc, ◌+◌, ◌<◌, ◌==◌, Bool, true, false, if◌then◌else◌}
use Rattle.std.proofs.Common.{Option, List, [], ◌∷◌, ◌++◌, length, map, get_or, refl, sym, ap}
use Rattle.std.proofs.Common.{subst, ◌∙◌, arith, eq-eqb}
use Rattle.std.specs.List.{flat_map}
use Rattle.std.proofs.lemmas.Bool.{eqb-true}
use Rattle.std.proofs.lemmas.List.{append-nil}
use Rattle.std.proofs.lemmas.List.Elements.{filter-append}
use Rattle.std.proofs.lemmas.Nat.{mod_below}
use Rattle.metric_events.specs.DataPoint.{DataPoint}
use Rattle.book_desk.specs.Homes.{home, hash}
use Rattle.book_desk.specs.Reads.{AreParts}
use Rattle.book_desk.specs.Splits.{points_in, chosen, AreSplit}
use Rattle.book_desk.specs.Windows.{is_within, within}
use Rattle.book_desk.specs.declared.part.Part.{Part}
use Rattle.book_desk.specs.declared.window.Window.{Window}

-- ---- what is chosen of what is chosen

both : {A : Type 0} (b : Bool) (p : A) (xs ys zs : List A) → xs ≡ ys ++ zs
    → (if b then p ∷ xs else xs) ≡ (if b then p ∷ ys else ys) ++ zs
both true p xs ys zs e = ap (λ qs. p ∷ qs) e
both false p xs ys zs e = e

chosen_append : (n k : ℕ) (ps qs : List DataPoint)
    → chosen n k (ps ++ qs) ≡ chosen n k ps ++ chosen n k qs
chosen_append n k [] qs = refl
chosen_append n k (p ∷ ps) qs = both (home n p.series == k) p _ _ _ (chosen_append n k ps qs)

differ : (a b : ℕ) → (a ≡ b → ⊥) → (a == b) ≡ false
differ a b n = at (a == b) refl
  where
    at : (v : Bool) → (a == b) ≡ v → (a == b) ≡ false
    at true e = absurd (n (eqb-true a b e))
    at false e = e

taken : (b : Bool) (n k : ℕ) (p : DataPoint) (ps : List DataPoint) → (home n p.series == k) ≡ b
    → chosen n k (p ∷ ps) ≡ (if b then p ∷ chosen n k ps else chosen n k ps)
taken b n k p ps e = ap (λ (v : Bool). if v then p ∷ chosen n k ps else chosen n k ps) e

chosen_same : (n k : ℕ) (ps : List DataPoint) → chosen n k (chosen n k ps) ≡ chosen n k ps
chosen_same n k [] = refl
chosen_same n k (p ∷ ps) = at (home n p.series == k) refl (chosen_same n k ps)
  where
    at : (b : Bool) → (home n p.series == k) ≡ b → chosen n k (chosen n k ps) ≡ chosen n k ps
        → chosen n k (chosen n k (p ∷ ps)) ≡ chosen n k (p ∷ ps)
    at true e rest = ap (λ (qs : List DataPoint). chosen n k qs) (taken true n k p ps e)
        ∙ (taken true n k p (chosen n k ps) e
        ∙ (ap (λ (qs : List DataPoint). p ∷ qs) rest ∙ sym (taken true n k p ps e)))
    at false e rest = ap (λ (qs : List DataPoint). chosen n k qs) (taken false n k p ps e)
        ∙ (rest ∙ sym (taken false n k p ps e))

chosen_other : (n k j : ℕ) (ps : List DataPoint) → (j ≡ k → ⊥) → chosen n k (chosen n j ps) ≡ []
chosen_other n k j [] d = refl
chosen_other n k j (p ∷ ps) d = at (home n p.series == j) refl (chosen_other n k j ps d)
  where
    at : (b : Bool) → (home n p.series == j) ≡ b → chosen n k (chosen n j ps) ≡ []
        → chosen n k (chosen n j (p ∷ ps)) ≡ []
    at true e rest =
        let h : home n p.series ≡ j = eqb-true (home n p.series) j e in
        ap (λ (qs : List DataPoint). chosen n k qs) (taken true n j p ps e)
        ∙ (taken false n k p (chosen n j ps) (differ (home n p.series) k (λ x. d (sym h ∙ x)))
        ∙ rest)
    at false e rest = ap (λ (qs : List DataPoint). chosen n k qs) (taken false n j p ps e) ∙ rest

-- ---- of all parts

-- the parts are those of the books from the i-th on
abbrev AreFrom : (n i : ℕ) (ps : List DataPoint) → List (Option Part) → Type 0
AreFrom n i ps parts = (m : ℕ) (d : Option Part) → m < length parts
    → points_in (get_or parts m d) ≡ chosen n (i + m) ps

head_from : (n i : ℕ) (ps : List DataPoint) (x : Option Part) (xs : List (Option Part))
    → AreFrom n i ps (x ∷ xs) → points_in x ≡ chosen n i ps
head_from n i ps x xs h = h 0 x (omega arith) ∙ ap (λ (j : ℕ). chosen n j ps) (omega arith)

tail_from : (n i : ℕ) (ps : List DataPoint) (x : Option Part) (xs : List (Option Part))
    → AreFrom n i ps (x ∷ xs) → AreFrom n (i + 1) ps xs
tail_from n i ps x xs h m d l =
    h (suc m) d (omega arith) ∙ ap (λ (j : ℕ). chosen n j ps) (omega arith)

joined : (n k i : ℕ) (ps here rest : List DataPoint) (x : Option Part) (xs : List (Option Part))
    → points_in x ≡ chosen n i ps → chosen n k (chosen n i ps) ≡ here
    → chosen n k (flat_map points_in xs) ≡ rest
    → chosen n k (flat_map points_in (x ∷ xs)) ≡ here ++ rest
joined n k i ps here rest x xs e f g =
    chosen_append n k (points_in x) (flat_map points_in xs)
    ∙ (ap (λ (qs : List DataPoint). chosen n k qs ++ chosen n k (flat_map points_in xs)) e
    ∙ (ap (λ (qs : List DataPoint). qs ++ chosen n k (flat_map points_in xs)) f
    ∙ ap (λ (qs : List DataPoint). here ++ qs) g))

none_before : (n k i : ℕ) (ps : List DataPoint) (parts : List (Option Part)) → AreFrom n i ps parts
    → k < i → chosen n k (flat_map points_in parts) ≡ []
none_before n k i ps [] h l = refl
none_before n k i ps (x ∷ xs) h l =
    joined n k i ps [] [] x xs (head_from n i ps x xs h)
    (chosen_other n k i ps (λ e. absurd (omega arith)))
    (none_before n k (i + 1) ps xs (tail_from n i ps x xs h) (omega arith))

at_book : (n k i m : ℕ) (ps : List DataPoint) (parts : List (Option Part)) → AreFrom n i ps parts
    → k ≡ i + m → m < length parts → chosen n k (flat_map points_in parts) ≡ chosen n k ps
at_book n k i m ps [] h e l = absurd (omega arith)
at_book n k i zero ps (x ∷ xs) h e l =
    let s : i ≡ k = omega (arith, e) in
    joined n k i ps (chosen n k ps) [] x xs (head_from n i ps x xs h)
    (subst (λ (j : ℕ). chosen n k (chosen n j ps) ≡ chosen n k ps) (sym s) (chosen_same n k ps))
    (none_before n k (i + 1) ps xs (tail_from n i ps x xs h) (omega (arith, e)))
    ∙ append-nil (chosen n k ps)
at_book n k i (suc m) ps (x ∷ xs) h e l =
    joined n k i ps [] (chosen n k ps) x xs (head_from n i ps x xs h)
    (chosen_other n k i ps (λ s. absurd (omega (arith, e))))
    (at_book n k (i + 1) m ps xs (tail_from n i ps x xs h) (omega (arith, e)) (omega arith))

-- ---- within the window

kept : (w : Window) (b : Bool) (p : DataPoint) (ps : List DataPoint) → is_within w p ≡ b
    → within w (p ∷ ps) ≡ (if b then p ∷ within w ps else within w ps)
kept w b p ps e = ap (λ (v : Bool). if v then p ∷ within w ps else within w ps) e

within_same : (w : Window) (ps : List DataPoint) → within w (within w ps) ≡ within w ps
within_same w [] = refl
within_same w (p ∷ ps) = at (is_within w p) refl (within_same w ps)
  where
    at : (b : Bool) → is_within w p ≡ b → within w (within w ps) ≡ within w ps
        → within w (within w (p ∷ ps)) ≡ within w (p ∷ ps)
    at true e rest = ap (λ (qs : List DataPoint). within w qs) (kept w true p ps e)
        ∙ (kept w true p (within w ps) e
        ∙ (ap (λ (qs : List DataPoint). p ∷ qs) rest ∙ sym (kept w true p ps e)))
    at false e rest = ap (λ (qs : List DataPoint). within w qs) (kept w false p ps e)
        ∙ (rest ∙ sym (kept w false p ps e))

within_chosen : (w : Window) (n k : ℕ) (ps : List DataPoint)
    → within w (chosen n k ps) ≡ chosen n k (within w ps)
within_chosen w n k [] = refl
within_chosen w n k (p ∷ ps) =
    at (is_within w p) (home n p.series == k) refl refl (within_chosen w n k ps)
  where
    at : (a b : Bool) → is_within w p ≡ a → (home n p.series == k) ≡ b
        → within w (chosen n k ps) ≡ chosen n k (within w ps)
        → within w (chosen n k (p ∷ ps)) ≡ chosen n k (within w (p ∷ ps))
    at true true e f rest = ap (λ (qs : List DataPoint). within w qs) (taken true n k p ps f)
        ∙ (kept w true p (chosen n k ps) e
        ∙ (ap (λ (qs : List DataPoint). p ∷ qs) rest
        ∙ (sym (taken true n k p (within w ps) f)
        ∙ ap (λ (qs : List DataPoint). chosen n k qs) (sym (kept w true p ps e)))))
    at true false e f rest = ap (λ (qs : List DataPoint). within w qs) (taken false n k p ps f)
        ∙ (rest ∙ (sym (taken false n k p (within w ps) f)
        ∙ ap (λ (qs : List DataPoint). chosen n k qs) (sym (kept w true p ps e))))
    at false true e f rest = ap (λ (qs : List DataPoint). within w qs) (taken true n k p ps f)
        ∙ (kept w false p (chosen n k ps) e
        ∙ (rest ∙ ap (λ (qs : List DataPoint). chosen n k qs) (sym (kept w false p ps e))))
    at false false e f rest = ap (λ (qs : List DataPoint). within w qs) (taken false n k p ps f)
        ∙ (rest ∙ ap (λ (qs : List DataPoint). chosen n k qs) (sym (kept w false p ps e)))

all_within : (w : Window) (n i : ℕ) (us : List DataPoint) (parts : List (Option Part))
    → AreFrom n i (within w us) parts
    → within w (flat_map points_in parts) ≡ flat_map points_in parts
all_within w n i us [] h = refl
all_within w n i us (x ∷ xs) h =
    let e : points_in x ≡ chosen n i (within w us) = head_from n i (within w us) x xs h in
    filter-append (is_within w) (points_in x) (flat_map points_in xs)
    ∙ (ap (λ (qs : List DataPoint). qs ++ within w (flat_map points_in xs))
    (ap (λ (qs : List DataPoint). within w qs) e
    ∙ (within_chosen w n i (within w us)
    ∙ (ap (λ (qs : List DataPoint). chosen n i qs) (within_same w us) ∙ sym e)))
    ∙ ap (λ (qs : List DataPoint). points_in x ++ qs)
    (all_within w n (i + 1) us xs (tail_from n i (within w us) x xs h)))

-- ---- the parts again

same_points : (xs ys : List (Option Part)) → length xs ≡ length ys
    → ((k : ℕ) (d : Option Part) → k < length xs
    → points_in (get_or xs k d) ≡ points_in (get_or ys k d))
    → map points_in xs ≡ map points_in ys
same_points [] [] l h = refl
same_points [] (y ∷ ys) l h = absurd (omega (arith, l))
same_points (x ∷ xs) [] l h = absurd (omega (arith, l))
same_points (x ∷ xs) (y ∷ ys) l h =
    ap (λ (ps : List DataPoint). ps ∷ map points_in xs) (h 0 x (omega arith))
    ∙ ap (λ (all : List (List DataPoint)). points_in y ∷ all)
    (same_points xs ys (omega (arith, l)) (λ k d m. h (suc k) d (omega arith)))

from_split : (parts : List (Option Part)) (ps : List DataPoint) → AreSplit parts ps
    → AreFrom (length parts) 0 ps parts
from_split parts ps h m d l = let s = h m d l in
    s.0 ∙ ap (λ (j : ℕ). chosen (length parts) j ps) (omega arith)

again_split : (n : ℕ) (ps : List DataPoint) (parts made : List (Option Part)) → length parts ≡ n
    → length made ≡ n → AreSplit parts ps → AreSplit made (flat_map points_in parts)
    → map points_in made ≡ map points_in parts
again_split n ps parts made l m h g = same_points made parts (omega (arith, l, m)) (λ k d b.
    let j : k < length parts = omega (arith, l, m, b) in
    let x = g k d b in let y = h k d j in
    x.0 ∙ (ap (λ (c : ℕ). chosen c k (flat_map points_in parts)) (m ∙ sym l)
    ∙ (at_book (length parts) k 0 k ps parts (from_split parts ps h) (omega arith) j
    ∙ sym (y.0))))

home_below : (n : ℕ) (p : DataPoint) → 0 < n → home n p.series < n
unfolding home
home_below n p l = mod_below (hash p.series) n l

-- a post that has points says some
some_said : (n : ℕ) (p : DataPoint) (ps : List DataPoint) (parts : List (Option Part)) → 0 < n
    → length parts ≡ n → AreSplit parts (p ∷ ps) → flat_map points_in parts ≡ [] → ⊥
some_said n p ps parts l m h e =
    let b : home (length parts) p.series < length parts =
    home_below (length parts) p (omega (arith, l, m)) in
    let a = at_book (length parts) (home (length parts) p.series) 0 (home (length parts) p.series)
    (p ∷ ps) parts (from_split parts (p ∷ ps) h) (omega arith) b in
    let t = taken true (length parts) (home (length parts) p.series) p ps
    (eq-eqb (home (length parts) p.series) (home (length parts) p.series) refl) in
    let z : [] ≡ p ∷ chosen (length parts) (home (length parts) p.series) ps =
    ap (λ (qs : List DataPoint). chosen (length parts) (home (length parts) p.series) qs)
    (sym e) ∙ (a ∙ t) in
    absurd (omega (arith, ap length z))

by_parts : (n : ℕ) (sender another : List ℕ) (w : Window) (us qs said : List DataPoint)
    (parts made : List (Option Part)) → qs ≡ within w us → said ≡ flat_map points_in parts
    → AreParts n sender qs parts → AreParts n another (within w said) made
    → map points_in made ≡ map points_in parts
by_parts n sender another w us [] said parts made q s h g =
    let none : within w said ≡ [] = ap (λ (ps : List DataPoint). within w ps) s
    ∙ ap (λ (xs : List (Option Part)). within w (flat_map points_in xs)) h in
    let z : made ≡ [] = subst (λ (ps : List DataPoint). AreParts n another ps made) none g in
    ap (λ (xs : List (Option Part)). map points_in xs) z
    ∙ ap (λ (xs : List (Option Part)). map points_in xs) (sym h)
by_parts n sender another w us (p ∷ ps) said parts made q s h g =
    let from : AreFrom (length parts) 0 (within w us) parts =
    from_split parts (within w us) (subst (λ (rs : List DataPoint). AreSplit parts rs) q (h.1))
    in
    let all : within w said ≡ flat_map points_in parts =
    ap (λ (rs : List DataPoint). within w rs) s ∙ all_within w (length parts) 0 us parts from in
    at (flat_map points_in parts) refl
    (subst (λ (rs : List DataPoint). AreParts n another rs made) all g)
  where
    empty : length parts ≡ n → n ≡ 0 → map points_in [] ≡ map points_in parts
    empty l e = same_points [] parts (omega (arith, l, e)) (λ k d b. absurd (omega (arith, b)))

    none : (k : ℕ) → n ≡ k → flat_map points_in parts ≡ [] → map points_in [] ≡ map points_in parts
    none zero e f = empty (h.0) e
    none (suc k) e f = absurd (some_said n p ps parts (omega (arith, e)) (h.0) (h.1) f)

    at : (rs : List DataPoint) → flat_map points_in parts ≡ rs
        → AreParts n another (flat_map points_in parts) made
        → map points_in made ≡ map points_in parts
    at [] f g = ap (λ (xs : List (Option Part)). map points_in xs)
        (subst (λ (rs : List DataPoint). AreParts n another rs made) f g) ∙ none n refl f
    at (r ∷ rs) f g =
        let parts_again = subst (λ (ts : List DataPoint). AreParts n another ts made) f g in
        again_split n (p ∷ ps) parts made (h.0) (parts_again.0) (h.1)
        (subst (λ (ts : List DataPoint). AreSplit made ts) (sym f) (parts_again.1))

pub parts_again : (n : ℕ) (sender another : List ℕ) (w : Window) (us said : List DataPoint)
    (parts made : List (Option Part)) → said ≡ flat_map points_in parts
    → AreParts n sender (within w us) parts → AreParts n another (within w said) made
    → map points_in made ≡ map points_in parts
parts_again n sender another w us said parts made s h g =
    by_parts n sender another w us (within w us) said parts made refl s h g
