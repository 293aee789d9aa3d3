-- The ten calls of a book, each with its answer: when a history gives that answer, and which event
-- the call adds.
use Rattle.std.specs.Prelude.{◌≡◌, ◌≢◌, ℕ, ◌+◌, if◌then◌else◌, List, [], Some, None, Result, Ok}
use Rattle.std.specs.Prelude.{Err, unwrap_or, ⊤, false}
use Rattle.std.specs.declared.option.Option.{Option}
use Rattle.metric_events.specs.History.{History, ◌▸◌}
use Rattle.metric_events.specs.Choice.{pick, flush_points}
use Rattle.metric_events.specs.declared.batch.Batch.{Batch}
use Rattle.metric_events.specs.declared.event.Event.{Event}
use Rattle.metric_events.specs.declared.event.Event.TheVariants as event
use Rattle.delta_book.specs.Journal.{Journal, appended, history, admits, takes}
use Rattle.delta_book.specs.Refusals.{admit_refusal, undo_refusal, confirm_refusal, flush_refusal}
use Rattle.delta_book.specs.Refusals.{quarantine_refusal, lift_refusal}
use Rattle.delta_book.specs.Flushes.{is_full}
use Rattle.delta_book.specs.Totals.{totals_rows}
use Rattle.delta_book.specs.declared.flush.Flush.{Flush}
use Rattle.delta_book.specs.declared.totals.SeriesTotals.{SeriesTotals}
use Rattle.delta_book.specs.declared.faults.AdmitFault.{AdmitFault}
use Rattle.delta_book.specs.declared.faults.AdmitFault.TheVariants as admission
use Rattle.delta_book.specs.declared.faults.UndoFault.{UndoFault}
use Rattle.delta_book.specs.declared.faults.NotOpen.{NotOpen}
use Rattle.delta_book.specs.declared.faults.TakeFault.{TakeFault}
use Rattle.delta_book.specs.declared.faults.TakeFault.TheVariants as taking
use Rattle.delta_book.specs.declared.faults.NotLive.{NotLive}
use Rattle.delta_book.specs.declared.faults.QuarantineFault.{QuarantineFault}
use Rattle.delta_book.specs.declared.faults.QuarantineFault.TheVariants as holding
use Rattle.delta_book.specs.declared.faults.NotQuarantined.{NotQuarantined}

-- a call with its answer; totals without rows were out of memory
pub data Call : Type 0 where
  admit : (body : Batch) (answer : Result ℕ (AdmitFault × Batch)) → Call
  undo : (batch : ℕ) (answer : Result (Unit {0}) UndoFault) → Call
  confirm : (batch : ℕ) (answer : Result (Unit {0}) NotOpen) → Call
  take : (max : ℕ) (answer : Result (Option Flush) TakeFault) → Call
  settle : (flush : ℕ) (answer : Result (Unit {0}) NotLive) → Call
  drop_flush : (flush : ℕ) (answer : Result (Unit {0}) NotLive) → Call
  give_back : (flush : ℕ) (answer : Result (Unit {0}) NotLive) → Call
  quarantine : (sender : List ℕ) (answer : Result (Unit {0}) QuarantineFault) → Call
  lift : (sender : List ℕ) (answer : Result (Unit {0}) NotQuarantined) → Call
  totals : (rows : Option (List SeriesTotals)) → Call

-- an answer is this refusal, or is accepted where there is none
abbrev pub GoesBy : {F : Type 0} → Option F → Result (Unit {0}) F → Type 0
GoesBy refusal (Ok u) = refusal ≡ None
GoesBy refusal (Err e) = refusal ≡ Some e

-- a batch is admitted as number n: nothing refuses it, the number is the next one, and the batch
-- can be confirmed and undone then
pub record IsBatchAfter (E : History) (body : Batch) (n : ℕ) : Type 0 where
  pub none : admit_refusal E body ≡ None
  pub number : n ≡ admits E + 1
  pub opened : confirm_refusal (E ▸ event.Admit n body) n ≡ None
  pub undoable : undo_refusal (E ▸ event.Admit n body) n ≡ None

-- a flush is taken of the series that are picked: there are some, and there is room; it has the
-- next number, the points of the definitions, and is live then
pub record IsFlushAfter (E : History) (max : ℕ) (flush : Flush) : Type 0 where
  pub some : pick E max ≢ []
  pub room : is_full E ≡ false
  pub number : flush.number ≡ takes E + 1
  pub points :
      flush.points ≡ flush_points (E ▸ event.Take flush.number (pick E max)) flush.number
  pub live : flush_refusal (E ▸ event.Take flush.number (pick E max)) flush.number ≡ None

-- this history gives the call this answer. Out of memory are only calls that nothing else refuses
abbrev pub Answers : History → Call → Type 0
Answers E (admit body (Ok n)) = IsBatchAfter E body n
Answers E (admit body (Err e)) =
    (e.0 ≡ unwrap_or (admit_refusal E body) admission.NoMemory) × (e.1 ≡ body)
Answers E (undo b r) = GoesBy (undo_refusal E b) r
Answers E (confirm b r) = GoesBy (confirm_refusal E b) r
Answers E (take max (Ok None)) = pick E max ≡ []
Answers E (take max (Ok (Some flush))) = IsFlushAfter E max flush
Answers E (take max (Err e)) =
    (pick E max ≢ []) × (e ≡ (if is_full E then taking.Full else taking.NoMemory))
Answers E (settle f r) = GoesBy (flush_refusal E f) r
Answers E (drop_flush f r) = GoesBy (flush_refusal E f) r
Answers E (give_back f r) = GoesBy (flush_refusal E f) r
Answers E (quarantine s (Ok u)) = quarantine_refusal E s ≡ None
Answers E (quarantine s (Err e)) = e ≡ unwrap_or (quarantine_refusal E s) holding.NoMemory
Answers E (lift s r) = GoesBy (lift_refusal E s) r
Answers E (totals None) = ⊤
Answers E (totals (Some rows)) = rows ≡ totals_rows E

-- the event that a call adds: none where it is refused or finds nothing, nor by totals
abbrev pub added : History → Call → Option Event
added E (admit body (Ok n)) = Some (event.Admit n body)
added E (undo b (Ok u)) = Some (event.Undo b)
added E (confirm b (Ok u)) = Some (event.Confirm b)
added E (take max (Ok (Some flush))) = Some (event.Take flush.number (pick E max))
added E (settle f (Ok u)) = Some (event.Settle f)
added E (drop_flush f (Ok u)) = Some (event.Drop f)
added E (give_back f (Ok u)) = Some (event.GiveBack f)
added E (quarantine s (Ok u)) = Some (event.Quarantine s)
added E (lift s (Ok u)) = Some (event.Lift s)
added E c = None

-- the journal with that event, from this seat
abbrev pub journal_with : Journal → ℕ → Option Event → Journal
journal_with J seat None = J
journal_with J seat (Some e) = appended J (record { seat = seat; event = e })

-- one call on a journal, from a seat: the journal's history gives the answer, and the journal grows
-- by the call's event
pub record IsCall (seat : ℕ) (J J' : Journal) (c : Call) : Type 0 where
  pub answers : Answers (history J) c
  pub journal : J' ≡ journal_with J seat (added (history J) c)
