-- What is answered about the bytes of a source, and how far it is read.
use Rattle.std.specs.Prelude.{◌≡◌, ◌≢◌, ◌⊎◌, ℕ, ◌≤◌, List, ◌++◌, length, Option, None, Result, Err}
use Rattle.std.specs.Prelude.{[]}
use Rattle.std.specs.Io.KnownBytes.{Consumes}
use Rattle.http_edge.specs.declared.fault.HttpFault.{HttpFault}
use Rattle.http_edge.specs.declared.fault.HttpFault.TheVariants.{Io}
use Rattle.http_edge.specs.declared.request.Request.{Request}
use Rattle.http_edge.specs.Form.{AnswerSays}
use Rattle.http_edge.specs.Reading.{IsTooLong, NotYet}
use Rattle.http_edge.specs.Holds.{Progress, Holds, IsSound, fault_in}
use Rattle.http_edge.specs.Answer.{request_form, ReportsTooLong}

-- there is a byte, the bytes begin with no message, and the size is not the first thing that is
-- wrong
abbrev pub IsMalformed : List ℕ → Type 0
IsMalformed bytes = (bytes ≢ []) × NotYet bytes

-- what an answer says of all the bytes of a source
abbrev pub Says : List ℕ → Result Request HttpFault → Type 0
Says bytes r = AnswerSays request_form bytes r

-- what was read before the last call, which gave so many bytes, is Open: nothing was read once it
-- was not
abbrev pub StopsReading : (List ℕ → Type 0) → Option (List ℕ) → Option (List ℕ) → ℕ → Type 0
StopsReading Open old new given =
    (before : List ℕ) × (last : List ℕ) × Consumes old new (before ++ last) × (length last ≤ given)
    × Open before

-- BodyTooLong is answered where a size is the first thing that is wrong, unless a call failed or
-- memory ran out
abbrev pub ReportsSize : List ℕ → Result Request HttpFault → Type 0
ReportsSize bytes r = IsTooLong bytes → (r ≡ Err Io) ⊎ ReportsTooLong r

-- no message yet, and no fault: a head that can still come; or a head that frames a body, and the
-- front of such a body, up to a size line or a trailer section that can still come
abbrev pub IsStillOpen : List ℕ → Type 0
IsStillOpen before =
    NotYet before × ((p : Progress) × (Holds p before × IsSound p × (fault_in p ≡ None)))
