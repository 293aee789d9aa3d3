-- What a decoder keeps of the bytes that it was fed.
use Rattle.std.specs.Prelude.{◌≡◌, ◌≢◌, ℕ, ◌+◌, ◌-◌, ◌≤◌, false, List, [], ◌++◌}
use Rattle.std.specs.Prelude.{length, Option, Some, None, ⊤}
use Rattle.httparse.specs.Grammar.{RequestHead}
use Rattle.http_edge.specs.declared.fault.HttpFault.{HttpFault}
use Rattle.http_edge.specs.declared.limits.TheConstants.{MAX_BODY, MAX_HEAD}
use Rattle.http_edge.specs.Message.{IsHeadAt}
use Rattle.http_edge.specs.Head.{IsHeadOpen}
use Rattle.http_edge.specs.Reading.{HasBody, framing_in}
use Rattle.http_edge.specs.Body.{BodyState, Becomes, bare, IsOpen, is_whole, most_left}
use Rattle.http_edge.specs.Body.{most_of_chunks}
use Rattle.http_edge.specs.Answer.{Fails}

-- how far a message was read: the bytes of the head so far; or the head, and the state of its body;
-- or a fault
pub data Progress : Type 0 where
  in_head : List ℕ → Progress
  in_body : List ℕ → BodyState → Progress
  failed : HttpFault → Progress

-- a head that may still come; or a body that may still come or is whole
abbrev pub IsSound : Progress → Type 0
IsSound (in_head head) = IsHeadOpen head
IsSound (in_body head body) = (length head ≤ MAX_HEAD) × IsOpen body
IsSound (failed e) = ⊤

-- the most bytes of a message: those of a head, and of chunks and trailers
abbrev pub most_of_a_message : ℕ
most_of_a_message = MAX_HEAD + most_of_chunks MAX_BODY

-- bytes are a whole head and what was fed of its body: with any more bytes the body is what it
-- becomes from here; the part so far is at their end, and behind them without it too the body is
-- what it becomes
pub record IsBehind (head : List ℕ) (body : BodyState) (bytes : List ℕ) (k : RequestHead)
    (fed : List ℕ) : Type 0 where
  pub at : IsHeadAt head k []
  pub bytes_are : bytes ≡ head ++ fed
  pub framed : framing_in k ≢ None
  pub bounded : is_whole body.phase ≡ false → length bytes + most_left body ≤ most_of_a_message
  pub forward : (more : List ℕ) (o : Option (List ℕ)) → HasBody (framing_in k) (fed ++ more) o
      → Becomes body more o
  pub backward : (more : List ℕ) (o : Option (List ℕ)) → Becomes body more o
      → HasBody (framing_in k) (fed ++ more) o
  pub past : List ℕ
  pub fed_is : fed ≡ past ++ body.part
  pub before_part : (more : List ℕ) (o : Option (List ℕ)) → Becomes (bare body) more o
      → HasBody (framing_in k) (past ++ more) o

-- after these bytes, however they were cut, this is how far the message was read
abbrev pub Holds : Progress → List ℕ → Type 0
Holds (in_head head) bytes = bytes ≡ head
Holds (in_body head body) bytes =
    (k : RequestHead) × (fed : List ℕ) × IsBehind head body bytes k fed
Holds (failed e) bytes = Fails e bytes

-- the fault that was returned, if one was
abbrev pub fault_in : Progress → Option HttpFault
fault_in (failed e) = Some e
fault_in p = None

-- the decoded body so far
abbrev pub content_in : Progress → List ℕ
content_in (in_body head body) = body.content
content_in p = []

-- how many bytes are kept: of the head, the body so far, and the part so far of a size line or of
-- the trailers
abbrev pub kept_len : Progress → ℕ
kept_len (in_head head) = length head
kept_len (in_body head body) = length head + length body.content + length body.part
kept_len (failed e) = 0

-- the most bytes that may still come before the message is whole or fails
abbrev pub most_to_come : Progress → ℕ
most_to_come (in_head head) = MAX_HEAD - length head + most_of_chunks MAX_BODY
most_to_come (in_body head body) = most_left body
most_to_come (failed e) = 0
