-- What is answered about bytes, for each form of message: a request, and the head of a response.
use Rattle.std.specs.Prelude.{◌≡◌, ◌≢◌, ◌⊎◌, ℕ, List, [], Result, Ok, Err, ⊤}
use Rattle.http_edge.specs.declared.fault.HttpFault.{HttpFault}
use Rattle.http_edge.specs.declared.fault.HttpFault.TheVariants as fault

-- what bytes begin with, and what of it a value has; when they begin with nothing yet; and what a
-- fault says of them
pub record Form (M R : Type 0) : Type 1 where
  pub begins : List ℕ → M → Type 0
  pub view : R → M
  pub not_yet : List ℕ → Type 0
  pub explains : HttpFault → List ℕ → Type 0

-- an answer about bytes that end here
abbrev pub IsAnswer : {M R : Type 0} → Form M R → List ℕ → Result R HttpFault → Type 0
IsAnswer form bytes (Ok r) = form.begins bytes (form.view r)
IsAnswer form bytes (Err e) = form.explains e bytes

-- a fault that more bytes do not mend
abbrev pub IsLasting : HttpFault → Type 0
IsLasting fault.Closed = ⊥
IsLasting fault.Truncated = ⊥
IsLasting fault.Io = ⊥
IsLasting e = ⊤

-- what a fault says of all the bytes of a source; of a call that failed it says nothing
abbrev pub FaultSays : {M R : Type 0} → Form M R → HttpFault → List ℕ → Type 0
FaultSays form fault.Closed bytes = form.explains fault.Closed bytes
FaultSays form fault.BodyTooLong bytes = form.explains fault.BodyTooLong bytes
FaultSays form fault.NoMemory bytes = bytes ≢ []
FaultSays form fault.Io bytes = ⊤
FaultSays form e bytes = ((bytes ≢ []) × form.not_yet bytes) × form.explains e bytes

-- what an answer says of all the bytes of a source
abbrev pub AnswerSays : {M R : Type 0} → Form M R → List ℕ → Result R HttpFault → Type 0
AnswerSays form bytes (Ok r) = form.begins bytes (form.view r)
AnswerSays form bytes (Err e) = FaultSays form e bytes

-- what the bytes begin with is answered, unless memory ran out
abbrev pub Gives : {M R : Type 0} → Form M R → M → Result R HttpFault → Type 0
Gives form m (Ok r) = form.view r ≡ m
Gives form m (Err e) = e ≡ fault.NoMemory

-- the same, unless a call failed
abbrev pub Delivers : {M R : Type 0} → Form M R → List ℕ → Result R HttpFault → Type 0
Delivers form bytes r = (m : _) → form.begins bytes m → (r ≡ Err fault.Io) ⊎ Gives form m r

-- closed, unless a call failed
abbrev pub IsClosed : {R : Type 0} → Result R HttpFault → Type 0
IsClosed r = (r ≡ Err fault.Closed) ⊎ (r ≡ Err fault.Io)
