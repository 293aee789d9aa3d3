-- What the calls answer, and what they leave: each answer but DONE tells why.
use Rattle.std.specs.Prelude.{◌≡◌, ◌≢◌, ◌⊎◌, ℕ, List, [], length, Option, None, false}
use Rattle.series_id.specs.Identity.{Identity}
use Rattle.metric_events.specs.Senders.{name_fault}
use Rattle.delta_book.specs.Journal.{Journal}
use Rattle.delta_book.specs.declared.faults.QuarantineFault.{QuarantineFault}
use Rattle.delta_book.specs.declared.flush.Flush.{Flush}
use Rattle.book_desk.specs.Crossings.{NoneCrosses}
use Rattle.book_desk.specs.Each.{EachBook}
use Rattle.book_desk.specs.EndRanges.{ends_of}
use Rattle.book_desk.specs.Ends.{IsNotEnded}
use Rattle.book_desk.specs.Holds.{RestsFrom, HoldFails, hold_refusal, is_held_in}
use Rattle.book_desk.specs.Naming.{IsNamed, IsNotNamed}
use Rattle.book_desk.specs.Reads.{IsUnread, IsUnreadBytes, IsNotPut}
use Rattle.book_desk.specs.Refusals.{IsNotAdmitted}
use Rattle.book_desk.specs.Said.{ArePartsSaid}
use Rattle.book_desk.specs.Takes.{IsNotTaken, IsNotTakenAlone}
use Rattle.book_desk.specs.Written.{IsNotForwarded, IsNotReported}
use Rattle.book_desk.specs.declared.by_number.PutFault.{PutFault}
use Rattle.book_desk.specs.declared.desk.DeskFault.{DeskFault}
use Rattle.book_desk.specs.declared.desk.EndFault.{EndFault}
use Rattle.book_desk.specs.declared.desk.TakeAllFault.{TakeAllFault}
use Rattle.book_desk.specs.declared.end.End.{End}
use Rattle.book_desk.specs.declared.flushes.TextFault.{TextFault}
use Rattle.book_desk.specs.declared.part.Part.{Part}
use Rattle.book_desk.specs.declared.reader.BytesFault.{BytesFault}
use Rattle.book_desk.specs.declared.reader.PostFault.{PostFault}
use Rattle.book_c.specs.Answers.{plain, admit_answer, post_status, bytes_status}
use Rattle.book_c.specs.Answers.{take_status, end_status}
use Rattle.book_c.specs.Answers.{text_status, hold_status, put_status}
use Rattle.book_c.specs.Slices.{AreAtFront, AreTooMany}
use Rattle.book_c.specs.declared.answers.Answer.{Answer}
use Rattle.book_c.specs.declared.statuses.TheConstants.{BAD_SENDER, NO_MEMORY}
use Rattle.book_c.specs.declared.statuses.TheConstants.{NOT_QUARANTINED, NOTHING}
use Rattle.book_c.specs.declared.statuses.TheConstants.{NONE_CROSSES, TOO_SHORT}

-- a post was not read, and the reader has nothing
abbrev pub TellsUnread : (sender bytes : List ℕ) → Answer → List (Option Part) → Type 0
TellsUnread sender bytes answer parts =
    (e : PostFault) × (answer ≡ plain (post_status e)) × IsUnread sender bytes e × (parts ≡ [])

-- the same of a post in protobuf
abbrev pub TellsUnreadBytes : (sender bytes : List ℕ) → Answer → List (Option Part) → Type 0
TellsUnreadBytes sender bytes answer parts =
    (e : BytesFault) × (answer ≡ plain (bytes_status e)) × IsUnreadBytes sender bytes e
    × (parts ≡ [])

-- points by number were not put, and the reader has nothing
abbrev pub TellsNotPut :
    List Identity → (sender words : List ℕ) → Answer → List (Option Part) → Type 0
TellsNotPut names sender words answer parts =
    (e : PutFault) × (answer ≡ plain (put_status e)) × IsNotPut names sender words e
    × (parts ≡ [])

-- the words that say the points of a reader over the names stand at the front of the slice
abbrev pub TellsSaid :
    List Identity → (old new : List ℕ) → List (Option Part) → (number : ℕ) → Type 0
TellsSaid names old new parts number =
    (words : List ℕ) × ArePartsSaid names words parts × AreAtFront words old new number

-- the slice is too short for them, or memory ran out
abbrev pub TellsNotSaid : List Identity → (old : List ℕ) → List (Option Part) → Answer → Type 0
TellsNotSaid names old parts answer =
    ((answer.status ≡ TOO_SHORT) × (words : List ℕ) × ArePartsSaid names words parts
    × AreTooMany words old answer.number)
    ⊎ (answer ≡ plain NO_MEMORY)

-- a request of the series with this number stands at the front of the slice
abbrev pub TellsNamed :
    List Identity → (number : ℕ) → (old new : List ℕ) → (bytes : ℕ) → Type 0
TellsNamed names number old new bytes =
    (text : List ℕ) × IsNamed names number text × AreAtFront text old new bytes

-- the slice is too short for it; or it is not written
abbrev pub TellsNotNamed : List Identity → (number : ℕ) → (old : List ℕ) → Answer → Type 0
TellsNotNamed names number old answer =
    ((answer.status ≡ TOO_SHORT) × (text : List ℕ) × IsNamed names number text
    × AreTooMany text old answer.number)
    ⊎ ((e : TextFault) × (answer ≡ plain (text_status e)) × IsNotNamed names number e)

-- a post was not admitted
abbrev pub TellsNotAdmitted : List Journal → List (Option Part) → Answer → Type 0
TellsNotAdmitted books parts answer =
    (e : DeskFault) × (answer ≡ admit_answer e) × IsNotAdmitted books parts e

-- the reader has no points
abbrev pub TellsNoPoints : List (Option Part) → Answer → Type 0
TellsNoPoints parts answer = (answer ≡ plain NOTHING) × (ends_of parts ≡ [])

-- nothing was read for so many books; or no part goes beyond what its book holds pending
abbrev pub TellsNoCrossing :
    (stretch : ℕ) → List Journal → List (Option Part) → (first : ℕ) → Answer → Type 0
TellsNoCrossing stretch books parts first answer =
    ((answer ≡ plain NOTHING) × (length parts ≢ length books))
    ⊎ ((answer ≡ plain NONE_CROSSES) × (length parts ≡ length books)
    × NoneCrosses stretch books parts first (length books))

-- flushes were not taken
abbrev pub TellsNotTaken :
    (max : ℕ) → (old new : List Journal) → List (Option Flush) → Answer → Type 0
TellsNotTaken max old new before answer =
    (e : TakeAllFault) × (answer ≡ plain (take_status e)) × IsNotTaken max old new before e

-- no flush was taken of the i-th book
abbrev pub TellsNotTakenAlone :
    (max i : ℕ) → (old new : List Journal) → List (Option Flush) → Answer → Type 0
TellsNotTakenAlone max i old new before answer =
    (e : TakeAllFault) × (answer ≡ plain (take_status e)) × IsNotTakenAlone max i old new before e

-- flushes were not ended
abbrev pub TellsNotEnded :
    End → (old new : List Journal) → List (Option Flush) → (status : ℕ) → Type 0
TellsNotEnded end old new flushes status =
    (e : EndFault) × (status ≡ end_status e) × IsNotEnded end old new flushes e

-- the request of the i-th flush was not written
abbrev pub TellsNotForwarded : List (Option Flush) → (i : ℕ) → Answer → Type 0
TellsNotForwarded flushes i answer =
    (e : TextFault) × (answer ≡ plain (text_status e)) × IsNotForwarded flushes i e

-- the report of the i-th book was not written
abbrev pub TellsNotReported : List Journal → (i : ℕ) → Answer → Type 0
TellsNotReported books i answer =
    (e : TextFault) × (answer ≡ plain (text_status e)) × IsNotReported books i e

-- the bytes are no sender's name, or memory ran out
abbrev pub TellsNoName : (sender : List ℕ) → (status : ℕ) → Type 0
TellsNoName sender status =
    ((status ≡ BAD_SENDER) × (name_fault sender ≢ None)) ⊎ (status ≡ NO_MEMORY)

-- a sender was not quarantined
abbrev pub TellsNotHeld : (old new : List Journal) → (sender : List ℕ) → (status : ℕ) → Type 0
TellsNotHeld old new sender status =
    (TellsNoName sender status × (new ≡ old))
    ⊎ ((e : QuarantineFault) × (status ≡ hold_status e) × EachBook (RestsFrom sender) old new
    × HoldFails e (hold_refusal old sender))

-- a sender was not released: it is no name, or in no book quarantined
abbrev pub TellsNotLifted : List Journal → (sender : List ℕ) → (status : ℕ) → Type 0
TellsNotLifted books sender status =
    TellsNoName sender status
    ⊎ ((status ≡ NOT_QUARANTINED) × (is_held_in books sender ≡ false))
