-- What an answer of the back end means, and what is done with the flush then.
use Rattle.std.specs.Prelude.{◌≡◌, ℕ, ◌⊎◌, ◌&&◌, ◌||◌, ◌==◌, Bool, List, Option, None, nat_le}
use Rattle.std.specs.Prelude.{if◌then◌else◌}
use Rattle.std.specs.Int.{IsInRange}
use Rattle.std.specs.Option.{option_and_then}
use Rattle.back_answers.specs.declared.answer.Answer.{Answer}
use Rattle.back_answers.specs.declared.answer.Answer.TheVariants.{Success, Retryable, Final}
use Rattle.back_answers.specs.declared.answer.Answer.TheVariants.{Unknown}
use Rattle.back_answers.specs.declared.answer.Act.{Act}
use Rattle.back_answers.specs.declared.answer.Act.TheVariants.{Settle, GiveBack, DropFlush}
use Rattle.back_answers.specs.Delay.{delay_seconds}

-- the back end took the request
abbrev pub IsSuccess : ℕ → Type 0
IsSuccess status = IsInRange 200 299 status

-- an error of the sender, or of the server
abbrev pub IsError : ℕ → Type 0
IsError status = IsInRange 400 599 status

-- an error after which the request may be sent again: too many requests, a bad gateway,
-- an unavailable service, a gateway's timeout
abbrev pub IsRetryable : ℕ → Type 0
IsRetryable status = (status ≡ 429) ⊎ (status ≡ 502) ⊎ (status ≡ 503) ⊎ (status ≡ 504)

-- an error that may name the seconds to wait: too many requests, an unavailable service
abbrev pub IsThrottling : ℕ → Type 0
IsThrottling status = (status ≡ 429) ⊎ (status ≡ 503)

-- the same as boolean tests
abbrev pub is_between : ℕ → ℕ → ℕ → Bool
is_between low high status = nat_le low status && nat_le status high

abbrev pub is_throttling : ℕ → Bool
is_throttling status = status == 429 || status == 503

abbrev pub is_retryable : ℕ → Bool
is_retryable status = is_throttling status || status == 502 || status == 504

-- the seconds that an answer with this status asks to wait
abbrev pub wait_of : ℕ → Option (List ℕ) → Option ℕ
wait_of status retry_after =
    if is_throttling status then option_and_then delay_seconds retry_after else None

-- the meaning of an answer with this status, and with this value of `Retry-After`, if any
unfoldable pub answer_of : ℕ → Option (List ℕ) → Answer
answer_of status retry_after =
    if is_between 200 299 status then Success else
    if is_retryable status then Retryable (wait_of status retry_after) else
    if is_between 400 599 status then Final else Unknown

-- only a success settles a flush, and only a final error drops it; else it is given back
abbrev pub act_of : Answer → Act
act_of Success = Settle
act_of (Retryable after) = GiveBack
act_of Final = DropFlush
act_of Unknown = GiveBack
