-- Two rows are within the limits of their kind together.
use Rattle.std.proofs.Common.{◌≡◌, ℕ, suc, ◌+◌, ◌-◌, ◌≤◌, Bool, true, false, ◌&&◌, ◌↔◌, List, []}
use Rattle.std.proofs.Common.{◌∷◌, take, drop, length, sum, refl, sym, arith, ℤ}
use Rattle.std.specs.Prelude.{nat_le, IsTrue}
use Rattle.std.proofs.lemmas.Bool.{and_from, leb-true, le-leb}
use Rattle.std.proofs.lemmas.List.{take_all, length-drop}
use Rattle.std.proofs.lemmas.List.Sums.{sum_by-cons}
use Rattle.bucket_lanes.specs.ByPlace.{Fits}
use Rattle.series_id.specs.declared.kinds.Kind.TheVariants.{Histogram}
use Rattle.metric_events.specs.Rows.{add_rows, are_within, fits, word_limit}
use Rattle.metric_events.specs.declared.limits.TheConstants.{MAX_POINTS, MAX_SUM, MAX_BUCKET}
use Rattle.metric_events.specs.declared.limits.TheConstants.{MAX_COUNT}
use Rattle.metric_events.proofs.Fits.{word_within}
use Rattle.metric_events.proofs.Sums.{added_at}
use Rattle.delta_book.proofs.Tables.{agree}

-- under one limit

flat : (most : ℕ) (xs ys : List ℕ) → length xs ≡ length ys → Fits most xs ys
    → are_within (λ k. most) (add_rows xs ys) ≡ true
flat most [] [] e h = refl
flat most (x ∷ xs) (y ∷ ys) e h =
    and_from (nat_le (x + y) most) (are_within (λ k. most) (add_rows xs ys))
    (le-leb (x + y) most (h 0 (omega arith)))
    (flat most xs ys (omega (arith, e)) (λ k l. h (suc k) (omega (arith, l))))
flat most xs ys e h = absurd (omega (arith, e))

flat_fits : (most : ℕ) (xs ys : List ℕ) → are_within (λ k. most) (add_rows xs ys) ≡ true
    → Fits most xs ys
flat_fits most xs ys h =
    λ k l. omega (arith, word_within (λ k. most) (add_rows xs ys) k h, added_at xs ys k)

pub within_is : (v : Bool) (most : ℕ) (xs ys : List ℕ) → length xs ≡ length ys
    → (IsTrue v ↔ Fits most xs ys) → v ≡ are_within (λ k. most) (add_rows xs ys)
within_is true most xs ys e h = sym (flat most xs ys e (h.0 refl))
within_is false most xs ys e h = both (are_within (λ k. most) (add_rows xs ys)) refl
  where
    both : (w : Bool) → are_within (λ k. most) (add_rows xs ys) ≡ w
        → false ≡ are_within (λ k. most) (add_rows xs ys)
    both true f = absurd (let q : false ≡ true = h.1 (flat_fits most xs ys f) in cc)
    both false f = sym f

-- what is left of a row
pub rest_is : (n : ℕ) (xs : List ℕ) → take (length xs - n) (drop n xs) ≡ drop n xs
rest_is n xs = take_all (length xs - n) (drop n xs) (omega (arith, length-drop n xs))

-- the limits of a kind, word by word

then_rest : (p q r w s : Bool)
    → ((p && (q && (r && true))) && (w && s)) ≡ ((p && (q && (r && w))) && s)
then_rest true true true w s = refl
then_rest true true false w s = refl
then_rest true false r w s = refl
then_rest false q r w s = refl

pub histogram_split : (bounds : List ℤ) (xs ys : List ℕ) → 3 ≤ length xs → length xs ≡ length ys
    → (are_within (word_limit (Histogram bounds)) (add_rows (take 3 xs) (take 3 ys))
    && (are_within (λ k. MAX_BUCKET) (add_rows (drop 3 xs) (drop 3 ys))
    && nat_le (sum (add_rows (drop 3 xs) (drop 3 ys))) MAX_COUNT))
    ≡ fits (Histogram bounds) (add_rows xs ys)
histogram_split bounds (a ∷ b ∷ c ∷ xs) (x ∷ y ∷ z ∷ ys) l m =
    then_rest (nat_le (a + x) MAX_POINTS) (nat_le (b + y) MAX_POINTS) (nat_le (c + z) MAX_SUM)
    (are_within (λ k. MAX_BUCKET) (add_rows xs ys)) (nat_le (sum (add_rows xs ys)) MAX_COUNT)
histogram_split bounds [] ys l m = absurd (omega (arith, l))
histogram_split bounds (a ∷ []) ys l m = absurd (omega (arith, l))
histogram_split bounds (a ∷ b ∷ []) ys l m = absurd (omega (arith, l))
histogram_split bounds (a ∷ b ∷ c ∷ xs) [] l m = absurd (omega (arith, m))
histogram_split bounds (a ∷ b ∷ c ∷ xs) (x ∷ []) l m = absurd (omega (arith, m))
histogram_split bounds (a ∷ b ∷ c ∷ xs) (x ∷ y ∷ []) l m = absurd (omega (arith, m))

-- two bounds that hold together
pub same_le : (a b c d : ℕ) → (a ≤ b → c ≤ d) → (c ≤ d → a ≤ b) → nat_le a b ≡ nat_le c d
same_le a b c d f g =
    agree (λ e. le-leb c d (f (leb-true a b e))) (λ e. le-leb a b (g (leb-true c d e)))

-- counts added up
pub sum_added : (xs ys : List ℕ) → sum (add_rows xs ys) ≡ sum xs + sum ys
sum_added [] ys = omega arith
sum_added (x ∷ xs) [] = omega arith
sum_added (x ∷ xs) (y ∷ ys) = omega (
  arith,
  sum_by-cons (λ n. n) (x + y) (add_rows xs ys),
  sum_by-cons (λ n. n) x xs,
  sum_by-cons
      (λ n. n) y ys,
  sum_added xs ys,
)
