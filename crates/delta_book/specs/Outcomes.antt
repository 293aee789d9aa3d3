-- What a call does after a history: the event that it adds, or its fault.
use Rattle.std.specs.Prelude.{ℕ, ◌+◌, List, [], ◌∷◌, Option, Some, None, Result, Ok, Err}
use Rattle.series_id.specs.Identity.{Identity}
use Rattle.back_answers.specs.declared.answer.Act.{Act}
use Rattle.back_answers.specs.declared.answer.Act.TheVariants.{Settle, GiveBack, DropFlush}
use Rattle.metric_events.specs.History.{History, admits, takes}
use Rattle.metric_events.specs.Choice.{pick}
use Rattle.metric_events.specs.declared.batch.Batch.{Batch}
use Rattle.metric_events.specs.declared.event.Event.{Event}
use Rattle.metric_events.specs.declared.event.Event.TheVariants as event
use Rattle.delta_book.specs.declared.faults.AdmitFault.{AdmitFault}
use Rattle.delta_book.specs.declared.faults.TakeFault.{TakeFault}
use Rattle.delta_book.specs.declared.faults.NotLive.{NotLive}
use Rattle.delta_book.specs.declared.faults.UndoFault.{UndoFault}
use Rattle.delta_book.specs.declared.faults.NotOpen.{NotOpen}
use Rattle.delta_book.specs.declared.faults.QuarantineFault.{QuarantineFault}
use Rattle.delta_book.specs.declared.faults.NotQuarantined.{NotQuarantined}
use Rattle.delta_book.specs.Refusals.{admit_refusal, undo_refusal, confirm_refusal, flush_refusal}
use Rattle.delta_book.specs.Refusals.{quarantine_refusal, lift_refusal}
use Rattle.delta_book.specs.Flushes.{take_refusal}

-- a call that may add an entry
pub data Asked : Type 0 where
  Admit : (body : Batch) → Asked
  Take : (max : ℕ) → Asked
  End : (act : Act) (flush : ℕ) → Asked
  Undo : (batch : ℕ) → Asked
  Confirm : (batch : ℕ) → Asked
  Quarantine : (sender : List ℕ) → Asked
  Lift : (sender : List ℕ) → Asked

-- why it adds none; a take that finds nothing has no fault
abbrev pub Fault : Asked → Type 0
Fault (Admit body) = AdmitFault
Fault (Take max) = Option TakeFault
Fault (End act flush) = NotLive
Fault (Undo batch) = UndoFault
Fault (Confirm batch) = NotOpen
Fault (Quarantine sender) = QuarantineFault
Fault (Lift sender) = NotQuarantined

-- the event by which an act ends a flush
abbrev pub event_of : Act → ℕ → Event
event_of Settle flush = event.Settle flush
event_of GiveBack flush = event.GiveBack flush
event_of DropFlush flush = event.Drop flush

-- the event, unless it is refused
abbrev pub unless : {F : Type 0} → Event → Option F → Result Event F
unless e None = Ok e
unless e (Some fault) = Err fault

-- a flush of these series, unless there are none or it is refused
abbrev pub take_of : ℕ → List Identity → Option TakeFault → Result Event (Option TakeFault)
take_of flush [] refusal = Err None
take_of flush (x ∷ xs) None = Ok (event.Take flush (x ∷ xs))
take_of flush (x ∷ xs) (Some fault) = Err (Some fault)

-- what the call does
abbrev pub outcome : History → (asked : Asked) → Result Event (Fault asked)
outcome E (Admit body) = unless (event.Admit (admits E + 1) body) (admit_refusal E body)
outcome E (Take max) = take_of (takes E + 1) (pick E max) (take_refusal E)
outcome E (End act flush) = unless (event_of act flush) (flush_refusal E flush)
outcome E (Undo batch) = unless (event.Undo batch) (undo_refusal E batch)
outcome E (Confirm batch) = unless (event.Confirm batch) (confirm_refusal E batch)
outcome E (Quarantine sender) = unless (event.Quarantine sender) (quarantine_refusal E sender)
outcome E (Lift sender) = unless (event.Lift sender) (lift_refusal E sender)
