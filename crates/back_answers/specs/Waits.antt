-- How long an answer asks to wait.
use Rattle.std.specs.Prelude.{ℕ, Option, None}
use Rattle.back_answers.specs.declared.answer.Answer.{Answer}
use Rattle.back_answers.specs.declared.answer.Answer.TheVariants.{Success, Retryable, Final}
use Rattle.back_answers.specs.declared.answer.Answer.TheVariants.{Unknown}

-- the seconds before the request may be sent again, where the back end says so
abbrev pub asked_wait : Answer → Option ℕ
asked_wait Success = None
asked_wait (Retryable after) = after
asked_wait Final = None
asked_wait Unknown = None
