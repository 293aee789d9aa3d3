-- Facts on lanes and blocks.
use Rattle.std.proofs.Common.{◌≡◌, ℕ, suc, zero, ◌+◌, ◌-◌, ◌*◌, ◌<◌, Bool, true, false, List, []}
use Rattle.std.proofs.Common.{◌∷◌, length, get_or, refl, arith, subst}
use Rattle.std.specs.Prelude.{nat_lt}
use Rattle.std.proofs.lemmas.Bool.{ltb-true, ltb-false}
use lib.Lanes.{Each2, mask_l}

pub Each2-by_index : (R : ℕ → ℕ → Type 0) (xs ys : List ℕ) → length xs ≡ length ys
    → ((k : ℕ) → k < length xs → R (get_or xs k 0) (get_or ys k 0)) → Each2 R xs ys
Each2-by_index R [] ys same h = tt
Each2-by_index R (x ∷ xs) [] same h = absurd (omega arith)
Each2-by_index R (x ∷ xs) (y ∷ ys) same h =
    (h 0 (omega arith), Each2-by_index R xs ys (omega arith) (λ k lt. h (suc k) (omega arith)))

pub mask_zero : (ms : List Bool) → mask_l ms ≡ 0 → (k : ℕ) → k < length ms
    → get_or ms k false ≡ false
mask_zero [] e k lt = refl
mask_zero (true ∷ ms) e k lt = absurd (omega arith)
mask_zero (false ∷ ms) e zero lt = refl
mask_zero (false ∷ ms) e (suc k) lt = mask_zero ms (omega arith) k (omega arith)

pub zero_mask : (ms : List Bool) → ((k : ℕ) → k < length ms → get_or ms k false ≡ false)
    → mask_l ms ≡ 0
zero_mask [] h = refl
zero_mask (true ∷ ms) h = absurd (let e : true ≡ false = h 0 (omega arith) in cc)
zero_mask (false ∷ ms) h = omega (arith, zero_mask ms (λ k lt. h (suc k) (omega arith)))

-- what holds of the first n eights and of the next holds of n + 1
pub below_block : (P : ℕ → Type 0) (n : ℕ) → ((k : ℕ) → k < 8 * n → P k)
    → ((j : ℕ) → j < 8 → P (n * 8 + j)) → (k : ℕ) → k < 8 * (n + 1) → P k
below_block P n low high k lt = cases (nat_lt k (8 * n)) refl
  where
    cases : (v : Bool) → nat_lt k (8 * n) ≡ v → P k
    cases true e = low k (ltb-true k (8 * n) e)
    cases false e =
        let from = ltb-false k (8 * n) e in
        let is : n * 8 + (k - n * 8) ≡ k = omega arith in
        subst P is (high (k - n * 8) (omega arith))
