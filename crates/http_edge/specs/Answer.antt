-- What is answered about the bytes of a request.
use Rattle.std.specs.Prelude.{◌≡◌, ◌≢◌, ◌⊎◌, ℕ, List, [], Bool, true, false, None, Result, Ok, Err}
use Rattle.std.specs.Prelude.{⊤}
use Rattle.httparse.specs.Grammar.{RequestHead, NeverHasRequest}
use Rattle.http_edge.specs.declared.fault.HttpFault.{HttpFault}
use Rattle.http_edge.specs.declared.fault.HttpFault.TheVariants as fault
use Rattle.http_edge.specs.declared.request.Request.{Request}
use Rattle.http_edge.specs.Form.{Form, IsLasting}
use Rattle.http_edge.specs.Message.{Message, IsHeadAt}
use Rattle.http_edge.specs.Head.{HasTooManyFields, HasLongHead}
use Rattle.http_edge.specs.Reading.{framing_in, BeginsWith, IsTooLong, NotYet, Never}
use Rattle.http_edge.specs.Request.{message_in}

-- the head is whole and frames a body, and whatever follows, no message begins so
abbrev pub HasBadBody : List ℕ → Type 0
HasBadBody bytes =
    (head : RequestHead) × (after : List ℕ) × IsHeadAt bytes head after × (framing_in head ≢ None)
    × Never bytes

-- what each fault says of the bytes; NoMemory says nothing of them, and Io is none of theirs
abbrev pub Explains : HttpFault → List ℕ → Type 0
Explains fault.Closed bytes = bytes ≡ []
Explains fault.BadHead bytes = NeverHasRequest bytes
Explains fault.TooManyHeaders bytes = HasTooManyFields bytes
Explains fault.HeadTooLong bytes = HasLongHead bytes
Explains fault.BadLength bytes =
    (head : RequestHead) × (after : List ℕ) × IsHeadAt bytes head after × (framing_in head ≡ None)
Explains fault.BodyTooLong bytes = IsTooLong bytes
Explains fault.BadChunk bytes = HasBadBody bytes
Explains fault.Truncated bytes = (bytes ≢ []) × NotYet bytes
Explains fault.Io bytes = ⊥
Explains fault.NoMemory bytes = ⊤

-- a request as a form of message
abbrev pub request_form : Form Message Request
request_form =
    record { begins = BeginsWith; view = message_in; not_yet = NotYet; explains = Explains }

-- the fault lasts, and this is what it says
abbrev pub Fails : HttpFault → List ℕ → Type 0
Fails e bytes = IsLasting e × Explains e bytes

-- what a feed returns of bytes that more may follow: true where they begin with a message
abbrev pub Reports : List ℕ → Result Bool HttpFault → Type 0
Reports bytes (Ok true) = (m : Message) × BeginsWith bytes m
Reports bytes (Ok false) = NotYet bytes
Reports bytes (Err e) = Fails e bytes

-- where the size is the first thing that is wrong, BodyTooLong is answered, unless memory ran out
abbrev pub ReportsTooLong : Result Request HttpFault → Type 0
ReportsTooLong (Ok r) = ⊥
ReportsTooLong (Err e) = (e ≡ fault.BodyTooLong) ⊎ (e ≡ fault.NoMemory)
