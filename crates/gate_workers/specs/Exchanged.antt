-- The result of an exchange with the back end.
use Rattle.std.specs.Prelude.{◌≡◌, ◌≢◌, ℕ, List, Option, IfSome, Result, Ok, Err, option_map}
use Rattle.back_answers.specs.Answers.{answer_of}
use Rattle.back_answers.specs.declared.answer.Answer.{Answer}
use Rattle.back_answers.specs.declared.answer.Answer.TheVariants.{Unknown}
use Rattle.http_edge.specs.Delivery.{StopsReading}
use Rattle.http_edge.specs.Reply.{IsReplyOpen, SaysReply}
use Rattle.http_edge.specs.declared.reply.Reply.{Reply}
use Rattle.http_edge.specs.declared.fault.HttpFault.{HttpFault}
use Rattle.http_edge.specs.declared.fault.HttpFault.TheVariants.{Io, NoMemory}
use Rattle.http_edge.specs.declared.written.Written.{Written}
use Rattle.http_edge.specs.declared.written.Written.TheVariants.{All}

-- the class of the head that was read; unknown without one
abbrev pub answer_to : Result Reply HttpFault → Answer
answer_to (Ok r) = answer_of r.status (option_map (λ v. v.now) r.retry_after)
answer_to (Err e) = Unknown

-- what was read, and the answer: the reader's bytes before and after, how many its last call
-- returned, its count of failed calls before and after, and the head or the fault, which is never
-- that memory ran out. No read follows the one that completes the head or shows that none can come
pub record IsRead (input left : Option (List ℕ)) (given : ℕ) (one_more : ℕ → ℕ) (old new : ℕ)
    (r : Result Reply HttpFault) (answer : Answer) : Type 0 where
  pub says : IfSome input (λ bytes. SaysReply bytes r)
  pub stops : StopsReading IsReplyOpen input left given
  pub io : r ≡ Err Io → new ≡ one_more old
  pub well : r ≢ Err Io → new ≡ old
  pub memory : r ≢ Err NoMemory
  pub class : answer ≡ answer_to r

-- where the whole request was written, the answer is that of the head that was read; else it is
-- unknown, and no known byte was read
abbrev pub IsAnswered : Option (List ℕ) → Option (List ℕ) → ℕ → (ℕ → ℕ) → ℕ → ℕ → Written → Answer
    → Type 0
IsAnswered input left given one_more old new All answer =
    (r : Result Reply HttpFault) × IsRead input left given one_more old new r answer
IsAnswered input left given one_more old new written answer =
    (answer ≡ Unknown) × (left ≡ input) × (new ≡ old)
