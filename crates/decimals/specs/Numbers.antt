-- The numbers that decimal digits write.
use Rattle.std.specs.Prelude.{◌≡◌, ℕ, ◌≤◌, ◌&&◌, List, length, nat_lt, nat_le, if◌then◌else◌}
use Rattle.std.specs.Prelude.{Option, Some, None}
use Rattle.std.specs.Str.{all_ascii_digits}
use Rattle.std.specs.Str.Parse.{IsNumeral, digits_value}

-- one or more decimal digits, with leading zeros or without
abbrev pub number : List ℕ → Option ℕ
number ds = if all_ascii_digits ds && nat_lt 0 (length ds) then Some (digits_value 10 ds) else None

-- a number, if it is at most `most`
abbrev pub at_most : ℕ → Option ℕ → Option ℕ
at_most most None = None
at_most most (Some n) = if nat_le n most then Some n else None

-- the number that the digits write, if it is at most `most`
abbrev pub number_up_to : ℕ → List ℕ → Option ℕ
number_up_to most ds = at_most most (number ds)

-- the digits are a numeral of the number n, and n is at most `most`
abbrev pub TellsUpTo : ℕ → List ℕ → ℕ → Type 0
TellsUpTo most ds n = IsNumeral 10 ds × (digits_value 10 ds ≡ n) × (n ≤ most)
