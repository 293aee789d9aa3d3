-- The calls of a keeper for a request, and the response to their answers. Where the book is shared,
-- other calls may come between.
use Rattle.std.specs.Prelude.{◌≡◌, ℕ, List, [], ◌∷◌, Option, Some, None, Result, Ok, Err, codes}
use Rattle.metric_events.specs.DataPoint.{DataPoint}
use Rattle.metric_events.specs.declared.batch.Batch.{Batch}
use Rattle.delta_book.specs.Calls as book
use Rattle.delta_book.specs.declared.totals.SeriesTotals.{SeriesTotals}
use Rattle.delta_book.specs.declared.faults.AdmitFault.{AdmitFault}
use Rattle.delta_book.specs.declared.faults.UndoFault.{UndoFault}
use Rattle.delta_book.specs.declared.faults.UndoFault.TheVariants.{Taken}
use Rattle.delta_book.specs.declared.faults.NotOpen.{NotOpen}
use Rattle.delta_book.specs.declared.faults.QuarantineFault.{QuarantineFault}
use Rattle.delta_book.specs.declared.faults.NotQuarantined.{NotQuarantined}
use Rattle.http_edge.specs.declared.written.Written.{Written}
use Rattle.http_edge.specs.declared.written.Written.TheVariants.{None_}
use Rattle.gate_workers.specs.declared.order.OrderFault.{OrderFault}
use Rattle.gate_workers.specs.declared.flush.Turn.{Turn}
use Rattle.gate_workers.specs.declared.service.End.{End}
use Rattle.gate_workers.specs.declared.service.End.TheVariants.{NoBatch, Confirmed, Undone}
use Rattle.gate_workers.specs.Calls.{Call, on_book, order}
use Rattle.gate_workers.specs.Refusals.{of_admit, of_quarantine, of_lift}
use Rattle.gate_workers.specs.Responses.{Response, json_response, refusal_response}
use Rattle.gate_workers.specs.Responses.{IsThatOrNoMemory, order_response, report_response}
use Rattle.gate_workers.specs.Requested.{Requested, Metrics, Quarantine, Lift, FlushNow, Report}
use Rattle.gate_workers.specs.Requested.{Refused}

-- how a call with its answer changes a keeper
abbrev pub Giving : Type 0 → Type 1
Giving K = K → Call → K → Type 0

abbrev pub IsConfirmed : {K : Type 0} → Giving K → ℕ → K → K → End → Type 0
IsConfirmed gives batch k k' end =
    (r : Result (Unit {0}) NotOpen) × gives k (on_book (book.confirm batch r)) k'
    × (end ≡ Confirmed)

-- after the answer to an undo: Taken is followed by the Confirm
abbrev pub IsUndone : {K : Type 0} → Giving K → ℕ → Result (Unit {0}) UndoFault → K → K → End
    → Type 0
IsUndone gives batch (Err Taken) k k' end = IsConfirmed gives batch k k' end
IsUndone gives batch r k k' end = (k ≡ k') × (end ≡ Undone)

-- an admitted batch is closed by how much of the response was written
abbrev pub IsClosed : {K : Type 0} → Giving K → ℕ → Written → K → K → End → Type 0
IsClosed {K} gives batch None_ k k' end =
    (r : Result (Unit {0}) UndoFault) × (m : K) × gives k (on_book (book.undo batch r)) m
    × IsUndone gives batch r m k' end
IsClosed {K} gives batch written k k' end = IsConfirmed gives batch k k' end

-- the batch of a request, where it has one, is closed by how much of the response was written
abbrev pub IsEnded : {K : Type 0} → Giving K → Option ℕ → Written → K → K → End → Type 0
IsEnded gives None written k k' end = (k ≡ k') × (end ≡ NoBatch)
IsEnded gives (Some batch) written k k' end = IsClosed gives batch written k k' end

-- the response to an admission, and the batch that is open then
abbrev pub SaysAdmission : List ℕ → Result ℕ (AdmitFault × Batch) → Response → Option ℕ → Type 0
SaysAdmission text (Ok number) response batch =
    (response ≡ json_response text) × (batch ≡ Some number)
SaysAdmission text (Err e) response batch =
    IsThatOrNoMemory (refusal_response (of_admit e.0)) response × (batch ≡ None)

-- a batch without points needs no call
abbrev pub IsPosted : {K : Type 0} → Giving K → List ℕ → List DataPoint → List ℕ → K → K → Response
    → Option ℕ → Type 0
IsPosted {K} gives sender [] text k k' response batch =
    (k ≡ k') × (response ≡ json_response text) × (batch ≡ None)
IsPosted {K} gives sender (p ∷ ps) text k k' response batch =
    (r : Result ℕ (AdmitFault × Batch))
    × gives k (on_book (book.admit (record { sender = sender; points = p ∷ ps }) r)) k'
    × SaysAdmission text r response batch

-- one call, and the response to its answer
abbrev pub IsOneCall : {K A : Type 0} → Giving K → (A → Call) → (A → Response → Type 0) → K → K
    → Response → Type 0
IsOneCall {K} {A} gives call Says k k' response = (a : A) × gives k (call a) k' × Says a response

abbrev pub SaysQuarantine : Result (Unit {0}) QuarantineFault → Response → Type 0
SaysQuarantine (Ok u) response = response ≡ json_response (codes "{}")
SaysQuarantine (Err fault) response =
    IsThatOrNoMemory (refusal_response (of_quarantine fault)) response

abbrev pub SaysLift : Result (Unit {0}) NotQuarantined → Response → Type 0
SaysLift (Ok u) response = response ≡ json_response (codes "{}")
SaysLift (Err fault) response = IsThatOrNoMemory (refusal_response (of_lift fault)) response

abbrev pub SaysOrder : Result Turn OrderFault → Response → Type 0
SaysOrder answer response = IsThatOrNoMemory (order_response answer) response

abbrev pub SaysReport : Option (List SeriesTotals) → Response → Type 0
SaysReport rows response = IsThatOrNoMemory (report_response rows) response

-- the calls before the response is written: the response, and the batch that is open until then
abbrev pub IsHandled : {K : Type 0} → Giving K → Requested → K → K → Response → Option ℕ → Type 0
IsHandled gives (Metrics body text) k k' response batch =
    IsPosted gives body.sender body.points text k k' response batch
IsHandled gives (Quarantine sender) k k' response batch =
    IsOneCall gives (λ r. on_book (book.quarantine sender r)) SaysQuarantine k k' response
    × (batch ≡ None)
IsHandled gives (Lift sender) k k' response batch =
    IsOneCall gives (λ r. on_book (book.lift sender r)) SaysLift k k' response × (batch ≡ None)
IsHandled gives FlushNow k k' response batch =
    IsOneCall gives order SaysOrder k k' response × (batch ≡ None)
IsHandled gives Report k k' response batch =
    IsOneCall gives (λ rows. on_book (book.totals rows)) SaysReport k k' response × (batch ≡ None)
IsHandled gives (Refused why) k k' response batch =
    (k ≡ k') × IsThatOrNoMemory (refusal_response why) response × (batch ≡ None)

-- the calls of a request: those before its response, and those that close its batch
abbrev pub IsConversation : {K : Type 0} → Giving K → Requested → K → K → Response → Written → End
    → Type 0
IsConversation {K} gives asked k k' response written end =
    (m : K) × (batch : Option ℕ) × IsHandled gives asked k m response batch
    × IsEnded gives batch written m k' end
