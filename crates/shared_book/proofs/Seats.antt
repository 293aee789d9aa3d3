-- The numbers of seats.
use Rattle.std.proofs.Common.{◌≡◌, ℕ, zero, suc, ◌+◌, ◌≤◌, Bool, true, false, ◌||◌, ◌==◌, List, []}
use Rattle.std.proofs.Common.{◌∷◌, length, refl, sym, ◌∙◌, arith}
use Rattle.std.specs.Prelude.{if◌then◌else◌}
use Rattle.std.proofs.lemmas.Bool.{eqb-true}
use Rattle.shared_book.specs.Receipts.{SeatView}
use Rattle.shared_book.specs.Audits.{is_seated, AllSeated}

-- without its first seat of a number
abbrev without : ℕ → List SeatView → List SeatView
without n [] = []
without n (s ∷ ss) = if s.number == n then ss else s ∷ without n ss

or_right : (a b : Bool) → (a || b) ≡ true → (a ≡ true → ⊥) → b ≡ true
or_right true b h f = absurd (f refl)
or_right false b h f = h

or_map : (a b c : Bool) → (a || b) ≡ true → (b ≡ true → c ≡ true) → (a || c) ≡ true
or_map true b c h f = refl
or_map false b c h f = f h

shorter : (b : Bool) (n : ℕ) (s : SeatView) (ss rest : List SeatView) → (b || is_seated n ss) ≡ true
    → (is_seated n ss ≡ true → length rest + 1 ≡ length ss)
    → length (if b then ss else s ∷ rest) + 1 ≡ length (s ∷ ss)
shorter true n s ss rest h f = omega arith
shorter false n s ss rest h f = omega (arith, f h)

length-without : (n : ℕ) (ss : List SeatView) → is_seated n ss ≡ true
    → length (without n ss) + 1 ≡ length ss
length-without n [] h = cc
length-without n (s ∷ ss) h = shorter (s.number == n) n s ss (without n ss) h (length-without n ss)

still : (b : Bool) (n k : ℕ) (s : SeatView) (ss rest : List SeatView) → (k ≡ n → ⊥)
    → (s.number == n) ≡ b → ((s.number == k) || is_seated k ss) ≡ true
    → (is_seated k ss ≡ true → is_seated k rest ≡ true)
    → is_seated k (if b then ss else s ∷ rest) ≡ true
still true n k s ss rest ne e h f =
    or_right (s.number == k) (is_seated k ss) h (λ t. ne (sym (eqb-true _ _ t) ∙ eqb-true _ _ e))
still false n k s ss rest ne e h f = or_map (s.number == k) (is_seated k ss) (is_seated k rest) h f

is_seated-without : (n k : ℕ) (ss : List SeatView) → (k ≡ n → ⊥) → is_seated k ss ≡ true
    → is_seated k (without n ss) ≡ true
is_seated-without n k [] ne h = h
is_seated-without n k (s ∷ ss) ne h =
    still (s.number == n) n k s ss (without n ss) ne refl h (is_seated-without n k ss ne)

-- where each number below is on some seat, there are as many seats
pub seated_enough : (n : ℕ) (ss : List SeatView) → AllSeated n ss → n ≤ length ss
seated_enough zero ss h = omega arith
seated_enough (suc n) ss h =
    let ih = seated_enough n (without n ss)
    (λ k lt. is_seated-without n k ss (λ e. absurd (omega arith)) (h k (omega arith))) in
    omega (arith, ih, length-without n ss (h n (omega arith)))
