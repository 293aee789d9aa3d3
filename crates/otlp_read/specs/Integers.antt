-- Whole numbers, as JSON numbers or as decimal texts.
use Rattle.std.specs.Prelude.{ℕ, suc, ◌-◌, ◌^◌, ℤ, pos, negsuc, neg_ℤ, List, [], ◌∷◌, Option, Some}
use Rattle.std.specs.Prelude.{None, option_map, nat_le, if◌then◌else◌, ◌==◌}
use Rattle.decimals.specs.Numbers.{number_up_to}
use Rattle.serde_json.specs.Data.{Data, number, string}
use Rattle.serde_json.specs.Find.{as_integer}

-- one or more decimal digits, also with leading zeros, of a number below 2^64: no range is larger
unfoldable pub magnitude : List ℕ → Option ℕ
magnitude ds = number_up_to (2 ^ 64 - 1) ds

-- an optional minus, and digits
abbrev pub text_whole : List ℕ → Option ℤ
text_whole [] = None
text_whole (b ∷ bs) =
    if b == 45 then option_map (λ n. neg_ℤ (pos n)) (magnitude bs)
    else option_map pos (magnitude (b ∷ bs))

-- the whole number of a value: a number without fraction and exponent, or a text of digits
abbrev pub whole : Data → Option ℤ
whole (number n) = as_integer n
whole (string s) = text_whole s
whole d = None

-- a number from 0 to most
abbrev pub up_to : ℕ → Option ℤ → Option ℕ
up_to most (Some (pos n)) = if nat_le n most then Some n else None
up_to most found = None

-- the number of a value, if it is a whole number from 0 to most
unfoldable pub unsigned_in : ℕ → Data → Option ℕ
unsigned_in most d = up_to most (whole d)

-- a number from -below to above
abbrev pub between : ℕ → ℕ → Option ℤ → Option ℤ
between below above None = None
between below above (Some (pos n)) = if nat_le n above then Some (pos n) else None
between below above (Some (negsuc n)) = if nat_le (suc n) below then Some (negsuc n) else None

-- the number of a value, if it is a whole number from -below to above
unfoldable pub signed_in : ℕ → ℕ → Data → Option ℤ
signed_in below above d = between below above (whole d)

-- the number of a value, if it is a whole number of 64 bits, without a sign and with one: the
-- widths of the standard's messages
abbrev pub unsigned_64 : Data → Option ℕ
unsigned_64 d = unsigned_in (2 ^ 64 - 1) d

abbrev pub signed_64 : Data → Option ℤ
signed_64 d = signed_in (2 ^ 63) (2 ^ 63 - 1) d
