-- The seconds in the value of a `Retry-After` field.
use Rattle.std.specs.Prelude.{ℕ, ◌-◌, ◌^◌, List, Option}
use Rattle.decimals.specs.Numbers.{number_up_to, TellsUpTo}

-- the most seconds that count: the largest number of 64 bits
abbrev pub most_seconds : ℕ
most_seconds = 2 ^ 64 - 1

-- the value is one or more decimal digits, of the number n, which is below 2^64
abbrev pub IsDelayOf : List ℕ → ℕ → Type 0
IsDelayOf value n = TellsUpTo most_seconds value n

-- the seconds to wait, if the value is such digits
unfoldable pub delay_seconds : List ℕ → Option ℕ
delay_seconds value = number_up_to most_seconds value
