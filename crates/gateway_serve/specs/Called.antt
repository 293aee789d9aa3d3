-- What one call to the back end comes to.
use Rattle.std.specs.Prelude.{◌≡◌, ℕ, List, Option, Some, None}
use Rattle.back_answers.specs.declared.answer.Answer.{Answer}
use Rattle.back_answers.specs.declared.answer.Answer.TheVariants.{Unknown}
use Rattle.http_edge.specs.Sent.{Sent, Failed}
use Rattle.http_edge.specs.declared.written.Written.{Written}
use Rattle.gate_workers.specs.Exchanged.{IsAnswered}

-- on the connection that was made one request was written, less only where a write failed; the
-- answer is the class of the head that came back, unless a read failed; where there is no
-- connection the answer is unknown
abbrev pub IsCalled : {R W : Type 0} → (R → Option (List ℕ)) → (R → ℕ) → (R → ℕ) → (ℕ → ℕ)
    → (W → Option (List ℕ)) → (W → ℕ) → (ℕ → ℕ) → Option (R × W) → List ℕ → Answer → Type 0
IsCalled remaining given failures one_more contents failed one_failed None request answer =
    answer ≡ Unknown
IsCalled {R} {W} remaining given failures one_more contents failed one_failed (Some line) request
    answer =
    (reader : R) × (writer : W) × (written : Written)
    × Sent (contents line.1) (contents writer) request written
    × Failed one_failed (failed line.1) (failed writer) written
    × IsAnswered (remaining line.0) (remaining reader) (given reader) one_more (failures line.0)
    (failures reader) written answer
