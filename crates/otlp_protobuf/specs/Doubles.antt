-- The whole number that a double is, by its bits (IEEE 754, binary64).
use Rattle.std.specs.Prelude.{ℕ, ◌+◌, ◌-◌, ◌*◌, ◌/◌, ◌%◌, ◌^◌, ◌==◌, nat_lt, if◌then◌else◌, ℤ, pos}
use Rattle.std.specs.Prelude.{neg_ℤ, Option, Some, None, option_map}

-- the exponent's field, and the digits with the one before the point
abbrev pub exponent : ℕ → ℕ
exponent size = size / 2 ^ 52

abbrev pub digits : ℕ → ℕ
digits size = 2 ^ 52 + size % 2 ^ 52

-- without the sign: zero, or digits times 2 ^ (exponent - 1075) if that is whole
unfoldable pub whole_size : ℕ → Option ℕ
whole_size size =
    if size == 0 then Some 0
    else (if nat_lt (exponent size) 1023 then None
    else (if nat_lt (exponent size) 1075
    then (if digits size % 2 ^ (1075 - exponent size) == 0
    then Some (digits size / 2 ^ (1075 - exponent size)) else None)
    else (if nat_lt (exponent size) 2047 then Some (digits size * 2 ^ (exponent size - 1075))
    else None)))

-- with the sign of the bits; zero has none
abbrev pub signed_size : ℕ → ℕ → ℤ
signed_size bits n = if nat_lt bits (2 ^ 63) then pos n else neg_ℤ (pos n)

-- the whole number of these bits, if they are one
abbrev pub whole_double : ℕ → Option ℤ
whole_double bits = option_map (signed_size bits) (whole_size (bits % 2 ^ 63))
