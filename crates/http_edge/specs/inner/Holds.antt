-- How a decoder goes on: what a piece makes of what is kept.
use Rattle.std.specs.Prelude.{◌≡◌, ℕ, ◌+◌, ◌≤◌, Bool, true, false, List, [], ◌++◌}
use Rattle.std.specs.Prelude.{length, take, Option, Some, None, Result, Ok, Err, IfOk, IfErr, ⊤}
use Rattle.httparse.specs.Grammar.{RequestHead}
use Rattle.http_edge.specs.declared.fault.HttpFault.{HttpFault}
use Rattle.http_edge.specs.declared.framing.Framing.{Framing}
use Rattle.http_edge.specs.declared.framing.Framing.TheVariants.{Sized, Chunked}
use Rattle.http_edge.specs.declared.machine.Machine.{Machine}
use Rattle.http_edge.specs.declared.machine.Machine.TheVariants.{InHead, InBody, Failed}
use Rattle.http_edge.specs.declared.limits.TheConstants.{MAX_BODY, MAX_HEAD}
use Rattle.http_edge.specs.Message.{IsHeadAt}
use Rattle.http_edge.specs.Head.{IsHeadOpen}
use Rattle.http_edge.specs.Reading.{HasBody, framing_in}
use Rattle.http_edge.specs.Body.{BodyState, Becomes, IsOpen, is_whole, most_left, most_of_chunks}
use Rattle.http_edge.specs.inner.Body.{body_state}
use Rattle.http_edge.specs.Answer.{Fails}
use Rattle.http_edge.specs.Holds.{Progress, IsSound, Holds, fault_in, most_to_come, in_head}
use Rattle.http_edge.specs.Holds.{in_body, failed}

abbrev pub progress_of : Machine → Progress
progress_of (InHead head) = in_head head.items
progress_of (InBody head body) = in_body head.items (body_state body)
progress_of (Failed e) = failed e

-- before the first byte
abbrev pub start : Progress
start = in_head []

-- the message is whole
abbrev pub is_done : Progress → Bool
is_done (in_body head body) = is_whole body.phase
is_done p = false

-- a body within the limit
abbrev pub IsFramed : Framing → Type 0
IsFramed (Sized n) = n ≤ MAX_BODY
IsFramed Chunked = ⊤

-- a body of that framing begins in that phase
pub record Starts (framing : Framing) (body : BodyState) : Type 0 where
  pub opened : IsOpen body
  pub forward : (more : List ℕ) (o : Option (List ℕ)) → HasBody (Some framing) more o
      → Becomes body more o
  pub backward : (more : List ℕ) (o : Option (List ℕ)) → Becomes body more o
      → HasBody (Some framing) more o
  pub less : most_left body ≤ most_of_chunks MAX_BODY
  pub empty : body.part ≡ []

-- the head ends n bytes into the piece, and frames the body so
pub record EndsHead (old new piece : List ℕ) (n : ℕ) (framing : Framing) : Type 0 where
  pub within : n ≤ length piece
  pub front : old ++ take n piece ≡ new
  pub head : RequestHead
  pub at : IsHeadAt new head []
  pub short : length new ≤ MAX_HEAD
  pub framed : framing_in head ≡ Some framing
  pub fits : IsFramed framing

-- the piece has more of the head, or its end
abbrev pub TakesHead : List ℕ → List ℕ → List ℕ → Option (ℕ × Framing) → Type 0
TakesHead old new piece None = (new ≡ old ++ piece) × IsHeadOpen new
TakesHead old new piece (Some found) = EndsHead old new piece found.0 found.1

-- the piece leads from old to new, and done says whether the message is whole
pub record Advances (old new : Progress) (piece : List ℕ) (done : Bool) : Type 0 where
  pub sound : IsSound new
  pub fine : fault_in new ≡ None
  pub done_is : done ≡ is_done new
  pub holds : (bytes : List ℕ) → Holds old bytes → Holds new (bytes ++ piece)
  pub less : done ≡ false → most_to_come new + length piece ≤ most_to_come old

-- after the piece there is this fault
abbrev pub Stops : Progress → List ℕ → HttpFault → Type 0
Stops old piece e = (bytes : List ℕ) → Holds old bytes → Fails e (bytes ++ piece)

-- a feed of the piece: it leads from old to new, or can't be fed; an earlier fault comes again, and
-- a whole message stays
pub record IsFed (old new : Progress) (piece : List ℕ) (r : Result Bool HttpFault) : Type 0 where
  pub ok : IfOk r (Advances old new piece)
  pub fault : IfErr r (Stops old piece)
  pub again : (e : HttpFault) → fault_in old ≡ Some e → r ≡ Err e
  pub whole : is_done old ≡ true → (r ≡ Ok true) × (new ≡ old)
