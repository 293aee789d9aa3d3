-- Rows of signed words: how they add.
use Rattle.std.proofs.Common.{◌≡◌, ℕ, ℤ, zero, suc, ◌+ℤ◌, ◌-ℤ◌, Bool, true, false, ◌&&◌, ⊎_elim}
use Rattle.std.proofs.Common.{List, [], ◌∷◌, length, refl, ap, sym, ◌∙◌, arith}
use Rattle.std.specs.Prelude.{int_lt}
use Rattle.std.proofs.lemmas.Int.{ints}
use Rattle.std.proofs.lemmas.Bool.{or_parts, or_left, or_right, or_from, or_cases, false≢true}
use Rattle.std.proofs.Math.IntN.{+ℤ_comm, +ℤ_assoc, +ℤ_idr, -ℤ-+ℤ_cancel}
use Rattle.service_law.specs.Sums.{zeros, plus, minus}
use Rattle.service_law.specs.Runs.{is_below}

pub plus_comm : (xs ys : List ℤ) → plus xs ys ≡ plus ys xs
plus_comm [] [] = refl
plus_comm [] (y ∷ ys) = refl
plus_comm (x ∷ xs) [] = refl
plus_comm (x ∷ xs) (y ∷ ys) = rw (+ℤ_comm x y, plus_comm xs ys) refl

pub plus_assoc : (xs ys zs : List ℤ) → plus (plus xs ys) zs ≡ plus xs (plus ys zs)
plus_assoc [] ys zs = refl
plus_assoc (x ∷ xs) [] zs = refl
plus_assoc (x ∷ xs) (y ∷ ys) [] = refl
plus_assoc (x ∷ xs) (y ∷ ys) (z ∷ zs) = rw (+ℤ_assoc x y z, plus_assoc xs ys zs) refl

pub length_zeros : (n : ℕ) → length (zeros n) ≡ n
length_zeros zero = refl
length_zeros (suc n) = ap suc (length_zeros n)

pub plus_zeros : (xs : List ℤ) (n : ℕ) → length xs ≡ n → plus xs (zeros n) ≡ xs
plus_zeros [] zero e = refl
plus_zeros [] (suc n) e = absurd (omega (arith, e))
plus_zeros (x ∷ xs) zero e = refl
plus_zeros (x ∷ xs) (suc n) e = rw (+ℤ_idr x, plus_zeros xs n (omega (arith, e))) refl

pub minus_plus : (xs ys : List ℤ) → length xs ≡ length ys → plus (minus xs ys) ys ≡ xs
minus_plus [] [] e = refl
minus_plus [] (y ∷ ys) e = absurd (omega (arith, e))
minus_plus (x ∷ xs) [] e = refl
minus_plus (x ∷ xs) (y ∷ ys) e = rw (-ℤ-+ℤ_cancel x y, minus_plus xs ys (omega (arith, e))) refl

chain_word : (r p q : ℤ) → (p -ℤ q) +ℤ (r -ℤ p) ≡ r -ℤ q
chain_word r p q = omega (arith, ints)

-- what was added to q up to p and what was added to p up to r is what was added to q up to r
pub minus_chain : (rs ps qs : List ℤ) → length rs ≡ length ps → length ps ≡ length qs
    → plus (minus ps qs) (minus rs ps) ≡ minus rs qs
minus_chain [] [] qs d e = refl
minus_chain [] (p ∷ ps) qs d e = absurd (omega (arith, d))
minus_chain (r ∷ rs) [] qs d e = absurd (omega (arith, d))
minus_chain (r ∷ rs) (p ∷ ps) [] d e = absurd (omega (arith, e))
minus_chain (r ∷ rs) (p ∷ ps) (q ∷ qs) d e =
    rw (chain_word r p q, minus_chain rs ps qs (omega (arith, d)) (omega (arith, e))) refl

-- a word below one that was not below another is below that one
below_word : (x y z : ℤ) → int_lt y x ≡ false → int_lt z x ≡ true → int_lt z y ≡ true
below_word x y z d e = grind (arith, ints)

above_word : (x y z : ℤ) → int_lt y x ≡ false → int_lt z y ≡ false → int_lt z x ≡ false
above_word x y z d e = grind (arith, ints)

pub below_later : (xs ys zs : List ℤ) → length xs ≡ length ys → is_below xs ys ≡ false
    → is_below xs zs ≡ true → is_below ys zs ≡ true
below_later [] ys zs l d e = absurd (false≢true e)
below_later (x ∷ xs) [] zs l d e = absurd (omega (arith, l))
below_later (x ∷ xs) (y ∷ ys) [] l d e = absurd (false≢true e)
below_later (x ∷ xs) (y ∷ ys) (z ∷ zs) l d e =
    let h = or_parts (int_lt y x) (is_below xs ys) d in
    ⊎_elim (λ lt. or_left _ _ (below_word x y z h.0 lt))
    (λ lt. or_right _ _ (below_later xs ys zs (omega (arith, l)) h.1 lt))
    (or_cases (int_lt z x) (is_below xs zs) e)

pub above_later : (xs ys zs : List ℤ) → length xs ≡ length ys → is_below xs ys ≡ false
    → is_below ys zs ≡ false → is_below xs zs ≡ false
above_later [] ys zs l d e = refl
above_later (x ∷ xs) [] zs l d e = absurd (omega (arith, l))
above_later (x ∷ xs) (y ∷ ys) [] l d e = refl
above_later (x ∷ xs) (y ∷ ys) (z ∷ zs) l d e =
    let h = or_parts (int_lt y x) (is_below xs ys) d in
    let k = or_parts (int_lt z y) (is_below ys zs) e in
    or_from _ _ (above_word x y z h.0 k.0) (above_later xs ys zs (omega (arith, l)) h.1 k.1)

-- the same of words that may fall, or may not
pub down_later : (b : Bool) (xs ys zs : List ℤ) → length xs ≡ length ys
    → (b && is_below xs ys) ≡ false → (b && is_below xs zs) ≡ true → (b && is_below ys zs) ≡ true
down_later true xs ys zs l d e = below_later xs ys zs l d e
down_later false xs ys zs l d e = absurd (false≢true e)

pub not_down_later : (b : Bool) (xs ys zs : List ℤ) → length xs ≡ length ys
    → (b && is_below xs ys) ≡ false → (b && is_below ys zs) ≡ false → (b && is_below xs zs) ≡ false
not_down_later true xs ys zs l d e = above_later xs ys zs l d e
not_down_later false xs ys zs l d e = refl

-- what was added to qs up to xs, and more, and qs are xs and more
pub added_up : (xs qs ts : List ℤ) → length xs ≡ length qs
    → plus (plus (minus xs qs) ts) qs ≡ plus ts xs
added_up xs qs ts l =
    plus_assoc (minus xs qs) ts qs ∙ ap (plus (minus xs qs)) (plus_comm ts qs)
    ∙ sym (plus_assoc (minus xs qs) qs ts)
    ∙ ap (λ row. plus row ts) (minus_plus xs qs l) ∙ plus_comm xs ts

pub plus_swap : (xs ys zs : List ℤ) → plus xs (plus ys zs) ≡ plus ys (plus xs zs)
plus_swap xs ys zs =
    sym (plus_assoc xs ys zs) ∙ ap (λ row. plus row zs) (plus_comm xs ys) ∙ plus_assoc ys xs zs

-- the same beside bs
pub went_up : (xs qs ts bs : List ℤ) → length xs ≡ length qs
    → plus (plus (minus xs qs) ts) (plus qs bs) ≡ plus ts (plus xs bs)
went_up xs qs ts bs l = sym (plus_assoc (plus (minus xs qs) ts) qs bs)
    ∙ ap (λ row. plus row bs) (added_up xs qs ts l) ∙ plus_assoc ts xs bs

-- all of xs, counted from nothing
pub counted_with : (n : ℕ) (xs ts bs : List ℤ) → length xs ≡ n
    → plus (plus xs ts) (plus (zeros n) bs) ≡ plus ts (plus xs bs)
counted_with n xs ts bs l =
    ap (λ row. plus row (plus (zeros n) bs)) (plus_comm xs ts)
    ∙ plus_assoc ts xs (plus (zeros n) bs)
    ∙ ap (plus ts) (sym (plus_assoc xs (zeros n) bs) ∙ ap (λ row. plus row bs) (plus_zeros xs n l))

-- all of ps, and what was added up to qs, are all of qs
pub caught_up : (ps qs zs : List ℤ) → length qs ≡ length ps
    → plus ps (plus (minus qs ps) zs) ≡ plus qs zs
caught_up ps qs zs l = sym (plus_assoc ps (minus qs ps) zs)
    ∙ ap (λ row. plus row zs) (plus_comm ps (minus qs ps) ∙ minus_plus qs ps l)

pub went_on : (rs ps qs zs : List ℤ) → length qs ≡ length ps → length ps ≡ length rs
    → plus (minus ps rs) (plus (minus qs ps) zs) ≡ plus (minus qs rs) zs
went_on rs ps qs zs l m = sym (plus_assoc (minus ps rs) (minus qs ps) zs)
    ∙ ap (λ row. plus row zs) (minus_chain qs ps rs l m)
