-- How results are answered: the one table of statuses is in src/statuses.rt.
use Rattle.std.specs.Prelude.{ℕ, ◌==◌, if◌then◌else◌, List, [], Option}
use Rattle.delta_book.specs.declared.faults.AdmitFault.TheVariants as admit
use Rattle.delta_book.specs.declared.faults.QuarantineFault.{QuarantineFault}
use Rattle.delta_book.specs.declared.faults.QuarantineFault.TheVariants as hold
use Rattle.delta_book.specs.declared.faults.TakeFault.TheVariants as taking
use Rattle.delta_book.specs.declared.flush.Flush.{Flush}
use Rattle.book_desk.specs.declared.desk.DeskFault.{DeskFault}
use Rattle.book_desk.specs.declared.desk.DeskFault.TheVariants as desk
use Rattle.book_desk.specs.declared.desk.EndFault.{EndFault}
use Rattle.book_desk.specs.declared.desk.EndFault.TheVariants as end
use Rattle.book_desk.specs.declared.desk.TakeAllFault.{TakeAllFault}
use Rattle.book_desk.specs.declared.desk.TakeAllFault.TheVariants as all
use Rattle.book_desk.specs.declared.end_range.EndRange.{EndRange}
use Rattle.book_desk.specs.declared.flushes.TextFault.{TextFault}
use Rattle.book_desk.specs.declared.flushes.TextFault.TheVariants as texts
use Rattle.book_desk.specs.declared.flushes.Written.{Written}
use Rattle.book_desk.specs.declared.draft.Counts.{Counts}
use Rattle.book_desk.specs.declared.by_number.PutFault.{PutFault}
use Rattle.book_desk.specs.declared.by_number.PutFault.TheVariants as put
use Rattle.book_desk.specs.declared.reader.PostFault.{PostFault}
use Rattle.book_desk.specs.declared.reader.PostFault.TheVariants as post
use Rattle.book_desk.specs.declared.reader.BytesFault.{BytesFault}
use Rattle.book_desk.specs.declared.reader.BytesFault.TheVariants as bytes
use Rattle.book_c.specs.declared.answers.Answer.{Answer}
use Rattle.book_c.specs.declared.statuses.TheConstants.{QUARANTINED, FULL, OTHER_WRITER}
use Rattle.book_c.specs.declared.statuses.TheConstants.{OUT_OF_ORDER, TOO_MANY_SERIES, TOO_LARGE}
use Rattle.book_c.specs.declared.statuses.TheConstants.{NO_MEMORY, BAD_SENDER, NOT_JSON}
use Rattle.book_c.specs.declared.statuses.TheConstants.{WRONG_SHAPE}
use Rattle.book_c.specs.declared.statuses.TheConstants.{NOTHING, NO_SUCH, ALREADY, NOT_ENDED}
use Rattle.book_c.specs.declared.statuses.TheConstants.{NOT_PROTOBUF}

-- a status alone
abbrev pub plain : ℕ → Answer
plain status = record { status = status; number = 0; at = 0; frontier = 0 }

-- why a post is not admitted; of a point with its position, and the frontier that it is before
abbrev pub admit_answer : DeskFault → Answer
admit_answer desk.Nothing = plain NOTHING
admit_answer (desk.Refused admit.Quarantined) = plain QUARANTINED
admit_answer (desk.Refused admit.Full) = plain FULL
admit_answer (desk.Refused (admit.OtherWriter i)) =
    record { status = OTHER_WRITER; number = 0; at = i; frontier = 0 }
admit_answer (desk.Refused (admit.OutOfOrder i frontier)) =
    record { status = OUT_OF_ORDER; number = 0; at = i; frontier = frontier }
admit_answer (desk.Refused admit.TooManySeries) = plain TOO_MANY_SERIES
admit_answer (desk.Refused admit.TooLarge) = plain TOO_LARGE
admit_answer (desk.Refused admit.NoMemory) = plain NO_MEMORY

-- why a post is not read
abbrev pub post_status : PostFault → ℕ
post_status post.BadSender = BAD_SENDER
post_status post.NotJson = NOT_JSON
post_status post.WrongShape = WRONG_SHAPE
post_status post.NoMemory = NO_MEMORY

-- why a post in protobuf is not read
abbrev pub bytes_status : BytesFault → ℕ
bytes_status bytes.BadSender = BAD_SENDER
bytes_status (bytes.Malformed why) = NOT_PROTOBUF
bytes_status bytes.NoMemory = NO_MEMORY

-- why points by number are not put
abbrev pub put_status : PutFault → ℕ
put_status put.BadSender = BAD_SENDER
put_status put.NoSuch = NO_SUCH
put_status put.NoMemory = NO_MEMORY

-- why flushes are not taken
abbrev pub take_status : TakeAllFault → ℕ
take_status all.NotEnded = NOT_ENDED
take_status all.Nothing = NOTHING
take_status (all.Refused taking.Full) = FULL
take_status (all.Refused taking.NoMemory) = NO_MEMORY

-- why they are not ended
abbrev pub end_status : EndFault → ℕ
end_status end.Nothing = NOTHING
end_status end.NotLive = NO_SUCH

-- the flushes that are left then: none, but where they were not of so many books
abbrev pub left_of : (status : ℕ) → List (Option Flush) → List (Option Flush)
left_of status flushes = if status == NOTHING then flushes else []

-- why a text is not written
abbrev pub text_status : TextFault → ℕ
text_status texts.NoSuch = NO_SUCH
text_status texts.NoMemory = NO_MEMORY

-- why a sender is not quarantined
abbrev pub hold_status : QuarantineFault → ℕ
hold_status hold.Already = ALREADY
hold_status hold.Full = FULL
hold_status hold.NoMemory = NO_MEMORY

-- the counts, the text and the range that an answer tells of
abbrev pub counts_of : Answer → Counts
counts_of answer =
    record { points = answer.number; foreign = answer.at; outside = answer.frontier }

abbrev pub written_of : Answer → Written
written_of answer = record { bytes = answer.number; series = answer.at }

abbrev pub range_of : Answer → EndRange
range_of answer = record { least = answer.number; greatest = answer.at }
