-- The run of a script: a reply for each line, by the rules over the history so far.
use Rattle.std.specs.Prelude.{ℕ, ◌+◌, Bool, true, false, ◌&&◌, List, [], ◌∷◌, ◌++◌, map, codes}
use Rattle.std.specs.Prelude.{decimal, Some, None, Ok, Err, Option, Result}
use Rattle.back_answers.specs.declared.answer.Act.{Act}
use Rattle.back_answers.specs.declared.answer.Act.TheVariants.{Settle, GiveBack, DropFlush}
use Rattle.metric_events.specs.History.{History, Start, Opened, ◌▸◌}
use Rattle.metric_events.specs.Close.{close}
use Rattle.metric_events.specs.Choice.{flush_points}
use Rattle.metric_events.specs.declared.batch.Batch.{Batch}
use Rattle.metric_events.specs.declared.event.Event.{Event}
use Rattle.metric_events.specs.declared.event.Event.TheVariants as event
use Rattle.metric_events.specs.declared.point.PointFault.{PointFault}
use Rattle.metric_events.specs.DataPoint.{DataPoint}
use Rattle.otlp_read.specs.declared.place.Place.{Place}
use Rattle.otlp_read.specs.declared.fault.ReadFault.TheVariants.{NotJson, WrongShape}
use Rattle.otlp_read.specs.Tallies.{Tally}
use Rattle.otlp_read.specs.Reading.{text_reading}
use Rattle.delta_book.specs.Journal.{admits, takes}
use Rattle.delta_book.specs.Outcomes as book
use Rattle.delta_book.specs.declared.faults.TakeFault.{TakeFault}
use Rattle.delta_book.specs.declared.faults.RoundFault.{RoundFault}
use Rattle.delta_book.specs.Totals.{totals_rows}
use Rattle.delta_book.specs.Rounds.{round_refusal}
use Rattle.delta_book.specs.PastRows.{past_rows}
use Rattle.play_script.specs.PointLines.{PointWords, point_of, first_fault}
use Rattle.play_script.specs.Commands.{Asked, AdmitLine, TakeLine, EndLine, ReportLine, UndoLine}
use Rattle.play_script.specs.Commands.{ConfirmLine, QuarantineLine, LiftLine, PostLine, RoundLine}
use Rattle.play_script.specs.Commands.{PastLine, WireLine, BadLine, command}
use Rattle.play_script.specs.Refused.{refusal_text}
use Rattle.play_script.specs.Replies.{said, batch_and_foreign, flush_text, wired_text}
use Rattle.play_script.specs.Replies.{flush_and_wait}
use Rattle.out_texts.specs.Report.{report_text}
use Rattle.out_texts.specs.Past.{past_text}
use Rattle.out_texts.specs.Request.{request_text}
use Rattle.play_script.specs.declared.refusal.Refusal.{Refusal}
use Rattle.play_script.specs.declared.refusal.Refusal.TheVariants as why

-- the reply to a line, and the history after it
pub record Answer : Type 0 where
  pub text : List ℕ
  pub after : History

-- nothing happens
abbrev pub only_says : History → List ℕ → Answer
only_says E text = record { text = text; after = E }

abbrev pub refused_text : Refusal → List ℕ
refused_text why = said (codes "refused ") (refusal_text why)

abbrev pub refused : History → Refusal → Answer
refused E why = only_says E (refused_text why)

-- the event happens
abbrev pub happens : History → Event → List ℕ → Answer
happens E e text = record { text = text; after = E ▸ e }

-- what a reply says of a fault
abbrev pub fault_text : (call : book.Asked) → book.Fault call → List ℕ
fault_text (book.Admit body) fault = refused_text (why.Admit fault)
fault_text (book.Take max) None = codes "nothing\n"
fault_text (book.Take max) (Some fault) = refused_text (why.Take fault)
fault_text (book.End act f) fault = refused_text why.NotLive
fault_text (book.Undo b) fault = refused_text (why.Undo fault)
fault_text (book.Confirm b) fault = refused_text why.NotOpen
fault_text (book.Quarantine s) fault = refused_text (why.Quarantine fault)
fault_text (book.Lift s) fault = refused_text why.NotQuarantined

-- the texts of a fault and of an event, by which of them is the outcome
abbrev pub answer_by : {F : Type 0} → History → (F → List ℕ) → (Event → List ℕ) → Result Event F
    → Answer
answer_by E of_fault of_event (Ok e) = happens E e (of_event e)
answer_by E of_fault of_event (Err fault) = only_says E (of_fault fault)

-- what a call of the book answers where its event has this text
abbrev pub called_as : History → (Event → List ℕ) → book.Asked → Answer
called_as E text call = answer_by E (fault_text call) text (book.outcome E call)

-- the same where the text does not depend on the event
abbrev pub called : History → List ℕ → book.Asked → Answer
called E text call = called_as E (λ e. text) call

abbrev pub body_of : List ℕ → List PointWords → Batch
body_of sender points = record { sender = sender; points = map point_of points }

-- a point that can't be made is refused before the book is asked
abbrev pub made_or : History → Batch → Option PointFault → Answer
made_or E body (Some fault) = refused E (why.Point fault)
made_or E body None =
    called E (said (codes "batch ") (decimal (admits E + 1))) (book.Admit body)

abbrev pub posted_batch : List ℕ → List DataPoint → Batch
posted_batch sender points = record { sender = sender; points = points }

-- the points of the profile are one batch; without any the book is not asked
abbrev pub posted : History → List ℕ → List DataPoint → ℕ → Answer
posted E sender [] foreign = only_says E (said (codes "nothing foreign ") (decimal foreign))
posted E sender (p ∷ ps) foreign =
    called E (said (codes "batch ") (batch_and_foreign (admits E + 1) foreign))
    (book.Admit (posted_batch sender (p ∷ ps)))

-- a body that can't be read is refused before the book is asked
abbrev pub read_or : History → List ℕ → Option (Result Tally Place) → Answer
read_or E sender None = refused E (why.Read NotJson)
read_or E sender (Some (Err place)) = refused E (why.Read (WrongShape place))
read_or E sender (Some (Ok t)) = posted E sender t.points t.foreign

-- the points of the flush that an event takes
abbrev pub taken_text : History → ℕ → Event → List ℕ
taken_text E f e = flush_text f (flush_points (E ▸ e) f)

-- its request
abbrev pub request_after : History → ℕ → Event → List ℕ
request_after E f e = wired_text f (request_text (flush_points (E ▸ e) f))

-- how a flush ended, and how long to wait where it was given back
abbrev pub act_text : Act → Option ℕ → ℕ → List ℕ
act_text Settle wait f = said (codes "settled ") (decimal f)
act_text GiveBack None f = said (codes "returned ") (decimal f)
act_text GiveBack (Some seconds) f = said (codes "returned ") (flush_and_wait f seconds)
act_text DropFlush wait f = said (codes "dropped ") (decimal f)

-- a round that may be closed is, and the next one begins
abbrev pub closed_or : History → Option RoundFault → Answer
closed_or E (Some fault) = refused E (why.Round fault)
closed_or E None =
    record { text = said (codes "round ") (decimal (close E).round); after = Opened (close E) }

-- what a command answers after a history
abbrev pub answer : History → Asked → Answer
answer E (AdmitLine sender points) = made_or E (body_of sender points) (first_fault points)
answer E (TakeLine max) = called_as E (taken_text E (takes E + 1)) (book.Take max)
answer E (EndLine f by wait) = called E (act_text by wait f) (book.End by f)
answer E ReportLine = only_says E (report_text (totals_rows E))
answer E (UndoLine b) = called E (said (codes "undone ") (decimal b)) (book.Undo b)
answer E (ConfirmLine b) = called E (said (codes "confirmed ") (decimal b)) (book.Confirm b)
answer E (QuarantineLine s) = called E (said (codes "held ") s) (book.Quarantine s)
answer E (LiftLine s) = called E (said (codes "lifted ") s) (book.Lift s)
answer E (PostLine sender body) = read_or E sender (text_reading body)
answer E RoundLine = closed_or E (round_refusal E)
answer E PastLine = only_says E (past_text (past_rows E))
answer E (WireLine max) = called_as E (request_after E (takes E + 1)) (book.Take max)
answer E BadLine = only_says E (codes "bad command\n")

-- whether the allocations of a line went well: all, not all, or not that of a request after its
-- flush was taken
pub data Mark : Type 0 where
  Found : Mark
  Missed : Mark
  MissedText : Mark

-- a flush f that an event takes is given back, without memory for its request
abbrev pub returned_by : History → ℕ → (Option TakeFault → List ℕ) → Result Event (Option TakeFault)
    → Answer
returned_by E f of_fault (Ok e) = refused (E ▸ e ▸ event.GiveBack f) why.NoMemory
returned_by E f of_fault (Err fault) = only_says E (of_fault fault)

abbrev pub without_text : History → Asked → Answer
without_text E (WireLine max) =
    returned_by E (takes E + 1) (fault_text (book.Take max)) (book.outcome E (book.Take max))
without_text E asked = answer E asked

-- what a command answers, with the memory that it found
abbrev pub marked_answer : History → Asked → Mark → Answer
marked_answer E asked Found = answer E asked
marked_answer E asked Missed = refused E why.NoMemory
marked_answer E asked MissedText = without_text E asked

-- the commands that may find no memory
abbrev pub takes_memory : Asked → Bool
takes_memory (EndLine f by wait) = false
takes_memory (UndoLine b) = false
takes_memory (ConfirmLine b) = false
takes_memory BadLine = false
takes_memory asked = true

-- which marks a command may have; one command sends a text
abbrev pub may_stand : Mark → Asked → Bool
may_stand Found asked = true
may_stand Missed asked = takes_memory asked
may_stand MissedText (WireLine max) = true
may_stand MissedText asked = false

-- a line and its mark
abbrev pub line_answer : History → List ℕ → Mark → Answer
line_answer E line mark = marked_answer E (command line) mark

-- each line has a mark that its command may have
abbrev pub are_marks : List (List ℕ) → List Mark → Bool
are_marks [] [] = true
are_marks (line ∷ lines) (mark ∷ marks) = may_stand mark (command line) && are_marks lines marks
are_marks lines marks = false

-- the replies to lines with their marks, after a history
abbrev pub replies : History → List (List ℕ) → List Mark → List ℕ
replies E (line ∷ lines) (mark ∷ marks) =
    (line_answer E line mark).text ++ replies (line_answer E line mark).after lines marks
replies E lines marks = []

-- the replies of a script
abbrev pub run : List (List ℕ) → List Mark → List ℕ
run lines marks = replies Start lines marks
