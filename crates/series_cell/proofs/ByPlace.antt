-- Rows that are known place by place.
use Rattle.std.proofs.Common.{◌≡◌, ℕ, ◌+◌, ◌<◌, ◌≤◌, List, [], ◌∷◌, ◌++◌, take, drop, length, refl}
use Rattle.std.proofs.Common.{ap, sym, ◌∙◌, subst, arith, zero, suc}
use Rattle.std.proofs.lemmas.List.{drop_all, take_all, append-nil}
use Rattle.std.proofs.Math.ListN.{replicate}
use Rattle.std.specs.Prelude.{slice_index}
use Rattle.bucket_lanes.specs.ByPlace.{AreSums, AreDifferences, IsClear}
use Rattle.metric_events.specs.Rows.{add_rows, zeros}
use Rattle.metric_events.proofs.Sums.{added_at, zeros_at, length-add_rows, length-zeros}

-- two rows of one length are one where they agree at each place
pub same_row : (xs ys : List ℕ) → length xs ≡ length ys
    → ((k : ℕ) → k < length xs → slice_index xs k ≡ slice_index ys k) → xs ≡ ys
same_row [] [] e h = refl
same_row (x ∷ xs) (y ∷ ys) e h =
    ap (λ n. n ∷ xs) (h 0 (omega arith))
    ∙ ap (λ zs. y ∷ zs) (same_row xs ys (omega arith) (λ k l. h (suc k) (omega arith)))
same_row xs ys e h = absurd (omega arith)

-- a sum by place
pub sum_row_is : (xs ys zs : List ℕ) → length zs ≡ length xs → length ys ≡ length xs
    → ((k : ℕ) → k < length xs → slice_index zs k ≡ slice_index xs k + slice_index ys k)
    → zs ≡ add_rows xs ys
sum_row_is xs ys zs e f h = same_row zs (add_rows xs ys)
    (omega (arith, length-add_rows xs ys (length xs) refl f))
    (λ k l. h k (omega arith) ∙ sym (added_at xs ys k))

-- a difference by place
pub rest_row_is : (xs ys zs ws : List ℕ) → length zs ≡ length xs → length ws ≡ length xs
    → xs ≡ add_rows ys ws → ((k : ℕ) → k < length xs
    → slice_index zs k + slice_index ys k ≡ slice_index xs k) → zs ≡ ws
rest_row_is xs ys zs ws e f s h = same_row zs ws (omega arith)
    (λ k l. omega (arith, h k (omega arith), ap (λ rs. slice_index rs k) s, added_at ys ws k))

pub zero_row_is : (n : ℕ) (zs : List ℕ) → length zs ≡ n → ((k : ℕ) → k < n → slice_index zs k ≡ 0)
    → zs ≡ zeros n
zero_row_is n zs e h = same_row zs (zeros n) (omega (arith, length-zeros n))
    (λ k l. h k (omega arith) ∙ sym (zeros_at n k))

-- a summand is at most the sum
pub part_le : (xs ys zs : List ℕ) (k : ℕ) → zs ≡ add_rows xs ys
    → slice_index xs k ≤ slice_index zs k
part_le xs ys zs k e = omega (arith, ap (λ rs. slice_index rs k) e, added_at xs ys k)

pub zeros-replicate : (n : ℕ) → replicate n 0 ≡ zeros n
zeros-replicate zero = refl
zeros-replicate (suc n) = ap (λ xs. 0 ∷ xs) (zeros-replicate n)

-- a slice written back whole
pub written_back : {X : Type 0} (xs ys : List X) (n : ℕ) → length ys ≡ length xs → n ≡ length xs
    → take n (ys ++ drop (length ys) xs) ≡ ys
written_back xs ys n e f =
    rw (drop_all (length ys) xs (omega arith)) (rw (append-nil ys) (take_all n ys (omega arith)))

-- a row taken away from another
pub taken_row : (all row part rest left : List ℕ) → part ≡ row → all ≡ add_rows row rest
    → length rest ≡ length all → length left ≡ length all → AreDifferences all part left
    → left ≡ rest
taken_row all row part rest left e sum l ll d =
    rest_row_is all part left rest ll l (sum ∙ ap (λ r. add_rows r rest) (sym e)) d

-- a row moved into another
pub moved : (dst src d s dst' src' : List ℕ) → dst ≡ d → src ≡ s → length s ≡ length d
    → length dst' ≡ length dst → length src' ≡ length src → AreSums dst src dst' → IsClear src'
    → (dst' ≡ add_rows d s) × (src' ≡ zeros (length s))
moved dst src d s dst' src' ed es l ld ls sums none = (
  sum_row_is dst src dst' ld (omega (arith, ap length ed, ap length es, l)) sums
      ∙ (ap (λ r. add_rows r src) ed ∙ ap (add_rows d) es),
  zero_row_is (length s) src' (ls ∙ ap length es)
      (λ k b. none k (omega (arith, b, ls, ap length es))),
)

pub differences_are : (all part left total rest : List ℕ) → all ≡ total → left ≡ rest
    → AreDifferences all part left → AreDifferences total part rest
differences_are all part left total rest e f d =
    subst (λ ws. AreDifferences ws part rest) e (subst (λ ws. AreDifferences all part ws) f d)
