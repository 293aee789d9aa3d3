-- Digits that are read several at a time.
use Rattle.std.proofs.Common.{◌≡◌, ◌≢◌, ℕ, ◌-◌, ◌^◌, ◌<◌, ◌≤◌, ◌==◌, ◌||◌, ◌∷◌, ◌↔◌, Bool, true}
use Rattle.std.proofs.Common.{false, cond, List, Some, None, Option, ℤ, option_map, pos, refl, ap}
use Rattle.std.proofs.Common.{sym, subst, ◌∙◌, arith, nat_le}
use Rattle.std.specs.Prelude.{slice_index}
use Rattle.std.specs.Str.Parse.{IsNumeral, digits_value, without_leading_plus}
use Rattle.std.proofs.lemmas.Bool.{le-leb}
use Rattle.decimals.specs.Numbers.{number_up_to, TellsUpTo}
use Rattle.otlp_read.specs.Integers.{magnitude, text_whole, up_to}
use Rattle.otlp_read.proofs.IntegerLemmas.{plain_text}

neither : (p m : Bool) → false ≡ (p || m) → (p ≡ false) × (m ≡ false)
neither true m e = absurd cc
neither false m e = (refl, sym e)

no_plus : (bs : List ℕ) → (slice_index bs 0 == 43) ≡ false → without_leading_plus bs ≡ bs
no_plus bs e = rw e refl

no_minus : (bs : List ℕ) → (slice_index bs 0 == 45) ≡ false → (rest : List ℕ) → bs ≢ 45 ∷ rest
no_minus bs e rest is = let first : (slice_index bs 0 == 45) ≡ true = rw is refl in absurd cc

within : (n most : ℕ) → n ≤ most → up_to most (Some (pos n)) ≡ Some n
within n most fits = rw (le-leb n most fits) refl

-- the number of digits that no sign precedes
pub read_many : (bs : List ℕ) (n : ℕ)
    → false ≡ ((slice_index bs 0 == 43) || (slice_index bs 0 == 45))
    → ((most : ℕ) (ds : List ℕ) (m : ℕ) → (number_up_to most ds ≡ Some m) ↔ TellsUpTo most ds m)
    → IsNumeral 10 (without_leading_plus bs) × (digits_value 10 (without_leading_plus bs) < 2 ^ 64)
    → n ≡ digits_value 10 (without_leading_plus bs)
    → up_to (2 ^ 64 - 1) (text_whole bs) ≡ Some n
unfolding magnitude
read_many bs n none law numeral value =
    let signs = neither _ _ none in
    let own = no_plus bs signs.0 in
    let fits : n ≤ 2 ^ 64 - 1 = omega (arith, numeral.1, value) in
    let is : digits_value 10 bs ≡ n = sym (value ∙ ap (digits_value 10) own) in
    let told : magnitude bs ≡ Some n =
    (law (2 ^ 64 - 1) bs n).1 (subst (λ b. IsNumeral 10 b) own numeral.0, is, fits) in
    ap (up_to (2 ^ 64 - 1)) (sym (plain_text bs (no_minus bs signs.1)) ∙ ap (option_map pos) told)
    ∙ within n (2 ^ 64 - 1) fits
