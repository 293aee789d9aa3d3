-- The value of decimal digits, one by one.
use Rattle.std.proofs.Common.{◌≡◌, ℕ, ◌+◌, ◌*◌, ◌-◌, ◌<◌, ◌≤◌, Bool, true, false, cond, Some, None}
use Rattle.std.proofs.Common.{refl, min, List, ◌∷◌, length, drop, take, get_or, sym, ap, ◌∙◌, arith}
use Rattle.std.specs.Str.{all_ascii_digits}
use Rattle.std.specs.Char.{digit_value}
use Rattle.std.specs.Str.Parse.{digits_value}
use Rattle.std.specs.Int.{IsInRange}
use Rattle.std.proofs.lemmas.List.{drop_more}
use Rattle.std.proofs.lemmas.Str.{digit_value_digit}
use Rattle.std.proofs.lemmas.Int.Digits.{digits_value_more}
use Rattle.std.proofs.lemmas.Str.Parse.{tells_all_ascii_digits, digits_value-take-le}
use Rattle.std.proofs.lemmas.Bool.Decides.{nat_tests}
use Rattle.decimals.specs.Numbers.{at_most, number_up_to}

-- digits from here on begin with one
pub digit_here : (text : List ℕ) (i : ℕ) → i < length text → all_ascii_digits (drop i text) ≡ true
    → IsInRange 48 57 (get_or text i 0) × (all_ascii_digits (drop (i + 1) text) ≡ true)
digit_here text i within h =
    let here : all_ascii_digits (get_or text i 0 ∷ drop (i + 1) text) ≡ true =
    ap all_ascii_digits (sym (drop_more text i 0 within)) ∙ h in
    tells_all_ascii_digits.parts (get_or text i 0) (drop (i + 1) text) here

capped : (v d m : ℕ) → min (min v (m + 1) * 10 + d) (m + 1) ≡ min (v * 10 + d) (m + 1)
capped v d m = omega arith

-- one more digit
pub number_more : (text : List ℕ) (i most value next : ℕ) → i < length text
    → IsInRange 48 57 (get_or text i 0) → value ≡ min (digits_value 10 (take i text)) (most + 1)
    → next ≡ min (value * 10 + (get_or text i 0 - 48)) (most + 1)
    → next ≡ min (digits_value 10 (take (i + 1) text)) (most + 1)
number_more text i most value next within digit so_far step =
    let d : digit_value (get_or text i 0) ≡ get_or text i 0 - 48 =
    omega (arith, digit_value_digit (get_or text i 0) digit) in
    let more : digits_value 10 (take (i + 1) text)
    ≡ digits_value 10 (take i text) * 10 + (get_or text i 0 - 48) =
    digits_value_more 10 text i within
    ∙ ap (λ n. digits_value 10 (take i text) * 10 + n) d in
    step ∙ ap (λ n. min (n * 10 + (get_or text i 0 - 48)) (most + 1)) so_far
    ∙ capped (digits_value 10 (take i text)) (get_or text i 0 - 48) most
    ∙ ap (λ n. min n (most + 1)) (sym more)

-- the value of one more digit
pub value_more : (text : List ℕ) (i value : ℕ) → i < length text → IsInRange 48 57 (get_or text i 0)
    → value ≡ digits_value 10 (take i text)
    → digits_value 10 (take (i + 1) text) ≡ value * 10 + (get_or text i 0 - 48)
value_more text i value within digit so_far =
    let d : digit_value (get_or text i 0) ≡ get_or text i 0 - 48 =
    omega (arith, digit_value_digit (get_or text i 0) digit) in
    digits_value_more 10 text i within ∙ ap (λ n. digits_value 10 (take i text) * 10 + n) d
    ∙ ap (λ n. n * 10 + (get_or text i 0 - 48)) (sym so_far)

above : (b : Bool) (n most : ℕ) → most < n → None ≡ at_most most (cond b (Some n) None)
above true n most over = grind (arith, nat_tests)
above false n most over = refl

-- digits of which a front is above the limit are no number up to it
pub too_large : (text : List ℕ) (k most : ℕ) → most < digits_value 10 (take k text)
    → None ≡ number_up_to most text
too_large text k most over =
    let within : digits_value 10 (take k text) ≤ digits_value 10 text =
    digits_value-take-le 10 text k (omega arith) in
    above _ (digits_value 10 text) most (omega arith)
