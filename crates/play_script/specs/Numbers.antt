-- The numbers of a script.
use Rattle.std.specs.Prelude.{ℕ, ℤ, pos, neg_ℤ, ◌==◌, List, [], ◌∷◌, if◌then◌else◌, None, Option}
use Rattle.std.specs.Option.{option_map}
use Rattle.decimals.specs.Numbers.{number_up_to}
use Rattle.play_script.specs.declared.numbers.TheConstants.{MAX_NUMBER, MAX_STATUS, MAX_ABOVE}
use Rattle.play_script.specs.declared.numbers.TheConstants.{MAX_BELOW}

-- a number below 2^64
abbrev pub number : List ℕ → Option ℕ
number digits = number_up_to MAX_NUMBER digits

-- the status of an answer: a number below 2^16
abbrev pub status : List ℕ → Option ℕ
status digits = number_up_to MAX_STATUS digits

-- a number of 64 bits with its sign: digits, or '-' and digits
abbrev pub value : List ℕ → Option ℤ
value [] = None
value (b ∷ bs) =
    if b == 45 then option_map (λ n. neg_ℤ (pos n)) (number_up_to MAX_BELOW bs)
    else option_map pos (number_up_to MAX_ABOVE (b ∷ bs))
