-- The seconds of a value are those of its digits.
use Rattle.std.proofs.Common.{◌≡◌, ◌↔◌, ℕ, List, Option, Some, None}
use Rattle.std.specs.Option.{IsSomeAnd, option_and_then}
use Rattle.decimals.proofs.Told.{number_tells}
use Rattle.back_answers.specs.Delay.{most_seconds, delay_seconds, IsDelayOf}

-- of a value
seconds_exactly : (ds : List ℕ) (n : ℕ) → (delay_seconds ds ≡ Some n) ↔ IsDelayOf ds n
unfolding delay_seconds
seconds_exactly ds n = number_tells most_seconds ds n

-- of a value that may be absent
pub wait_exactly : (value : Option (List ℕ)) (n : ℕ)
    → (option_and_then delay_seconds value ≡ Some n) ↔ IsSomeAnd value (λ ds. IsDelayOf ds n)
wait_exactly None n = (λ e. cc, λ h. absurd h)
wait_exactly (Some ds) n = seconds_exactly ds n
