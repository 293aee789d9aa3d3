-- Reading whole numbers that were written in decimal.
use Rattle.std.proofs.Common.{◌≡◌, ◌≢◌, ℕ, suc, ◌<◌, ◌-◌, ◌^◌, true, leb, ltb, ◌&&◌, List, ◌∷◌}
use Rattle.std.proofs.Common.{length, get_or, Some, None, option_map, ℤ, pos, negsuc, sym, ap, ◌∙◌}
use Rattle.std.proofs.Common.{arith}
use Rattle.std.specs.Prelude.{decimal}
use Rattle.std.specs.Fmt.{signed_decimal}
use Rattle.std.specs.Str.{all_ascii_digits}
use Rattle.std.specs.Str.Parse.{digits_value}
use Rattle.std.proofs.lemmas.Bool.{and_from, lt-ltb, le-leb, cond-true}
use Rattle.std.proofs.lemmas.Fmt.{digits_decimal, digits_value-decimal, decimal_nonempty}
use Rattle.std.proofs.lemmas.Str.Parse.{IsNumeralModel, numerals_by_value, tells_all_ascii_digits}
use Rattle.std.proofs.lemmas.Str.Parse.{not_in_digits}
use Rattle.serde_json.specs.Data.{string}
use Rattle.decimals.specs.Numbers.{number, at_most}
use Rattle.series_id.specs.Values.{IsInt}
use Rattle.otlp_read.specs.Integers.{magnitude, text_whole, unsigned_in, signed_in}
use Rattle.otlp_read.proofs.IntegerLemmas.{plain_text}

own : IsNumeralModel (λ ds. all_ascii_digits ds ≡ true) (digits_value 10)
own = numerals_by_value _ tells_all_ascii_digits

number_decimal : (n : ℕ) → n < 2 ^ 64 → number (decimal n) ≡ Some n
number_decimal n small =
    let passes : (all_ascii_digits (decimal n) && ltb 0 (length (decimal n))) ≡ true =
    and_from _ _ (digits_decimal own n small) (lt-ltb 0 _ (decimal_nonempty n small)) in
    cond-true _ (Some (digits_value 10 (decimal n))) None passes
    ∙ ap (λ m. Some m) (digits_value-decimal own n small)

magnitude_decimal : (n : ℕ) → n < 2 ^ 64 → magnitude (decimal n) ≡ Some n
unfolding magnitude
magnitude_decimal n small = ap (at_most (2 ^ 64 - 1)) (number_decimal n small)
    ∙ cond-true (leb n (2 ^ 64 - 1)) (Some n) None (le-leb n (2 ^ 64 - 1) (omega (arith, small)))

not_minus : (n : ℕ) → n < 2 ^ 64 → (rest : List ℕ) → decimal n ≢ 45 ∷ rest
not_minus n small rest e =
    not_in_digits own (decimal n) 45 (digits_decimal own n small) (λ h. omega arith) 0
    (decimal_nonempty n small) (ap (λ (s : List ℕ). get_or s 0 0) e)

whole_decimal : (n : ℕ) → n < 2 ^ 64 → text_whole (decimal n) ≡ Some (pos n)
whole_decimal n small = sym (plain_text (decimal n) (not_minus n small))
    ∙ ap (option_map (λ m. pos m)) (magnitude_decimal n small)

pub unsigned_again : (n : ℕ) → n < 2 ^ 64 → unsigned_in (2 ^ 64 - 1) (string (decimal n)) ≡ Some n
unfolding unsigned_in
unsigned_again n small = rw (whole_decimal n small)
    (cond-true (leb n (2 ^ 64 - 1)) (Some n) None (le-leb n (2 ^ 64 - 1) (omega (arith, small))))

pub signed_again : (z : ℤ) → IsInt z
    → signed_in (2 ^ 63) (2 ^ 63 - 1) (string (signed_decimal z)) ≡ Some z
unfolding signed_in
signed_again (pos n) small = rw (whole_decimal n (omega (arith, small)))
    (cond-true (leb n (2 ^ 63 - 1)) (Some (pos n)) None
    (le-leb n (2 ^ 63 - 1) (omega (arith, small))))
signed_again (negsuc n) small = rw (magnitude_decimal (suc n) (omega (arith, small)))
    (cond-true (leb (suc n) (2 ^ 63)) (Some (negsuc n)) None
    (le-leb (suc n) (2 ^ 63) (omega (arith, small))))
