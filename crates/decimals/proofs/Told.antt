-- A number is told exactly where there are digits of it and it is within the limit.
use Rattle.std.proofs.Common.{◌≡◌, ℕ, ◌≤◌, Bool, true, false, cond, ◌&&◌, ◌↔◌, List, length, Some}
use Rattle.std.proofs.Common.{None, refl, ap, arith, nat_le, nat_lt}
use Rattle.std.specs.Str.{all_ascii_digits}
use Rattle.std.specs.Str.Parse.{IsNumeral, digits_value}
use Rattle.std.proofs.lemmas.Bool.{and_from, and_parts, lt-ltb, ltb-true, le-leb, leb-true}
use Rattle.std.proofs.lemmas.Str.Parse.{IsNumeralModel, numerals_by_value, tells_all_ascii_digits}
use Rattle.decimals.specs.Numbers.{at_most, number_up_to, TellsUpTo}

-- std's numerals are these digits
own : IsNumeralModel (λ ds. all_ascii_digits ds ≡ true) (digits_value 10)
own = numerals_by_value _ tells_all_ascii_digits

within : (f : Bool) (v n : ℕ) → cond f (Some v) None ≡ Some n → (v ≡ n) × (f ≡ true)
within true v n e = (cc e, refl)
within false v n e = cc e

there : (t : Bool) (v most n : ℕ) → at_most most (cond t (Some v) None) ≡ Some n
    → (t ≡ true) × ((v ≡ n) × (nat_le v most ≡ true))
there true v most n e = (refl, within (nat_le v most) v n e)
there false v most n e = cc e

told : (most : ℕ) (ds : List ℕ) (n : ℕ) → number_up_to most ds ≡ Some n
    → IsNumeral 10 ds × (digits_value 10 ds ≡ n) × (digits_value 10 ds ≤ most)
told most ds n e =
    let parts = there (all_ascii_digits ds && nat_lt 0 (length ds)) (digits_value 10 ds) most n e in
    let tests = and_parts _ _ parts.0 in (
      (ltb-true 0 (length ds) tests.1, own.to ds tests.0),
      parts.1.0,
      leb-true (digits_value 10 ds)
          most parts.1.1,
    )

tells : (most : ℕ) (ds : List ℕ) (n : ℕ)
    → IsNumeral 10 ds × (digits_value 10 ds ≡ n) × (digits_value 10 ds ≤ most)
    → number_up_to most ds ≡ Some n
tells most ds n h =
    let passes : (all_ascii_digits ds && nat_lt 0 (length ds)) ≡ true =
    and_from _ _ (own.from ds h.0.1) (lt-ltb 0 (length ds) h.0.0) in
    let fits : nat_le (digits_value 10 ds) most ≡ true = le-leb (digits_value 10 ds) most h.2 in
    rw passes (rw fits (ap (λ k. Some k) h.1))

pub number_tells : (most : ℕ) (ds : List ℕ) (n : ℕ)
    → (number_up_to most ds ≡ Some n) ↔ TellsUpTo most ds n
number_tells most ds n = (
  λ e. let t = told most ds n e in
      (t.0, t.1, omega (arith, t.1, t.2)),
  λ h. tells most ds n
      (h.0, h.1, omega (arith, h.1, h.2)),
)
