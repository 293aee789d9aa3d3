-- A flush turn: of any store, and after a history.
use Rattle.std.specs.Prelude.{◌≡◌, ℕ, ◌+◌, List, [], ◌∷◌, length, Option, Some, None, Result, Ok}
use Rattle.std.specs.Prelude.{Err}
use Rattle.metric_events.specs.History.{History, ◌▸◌}
use Rattle.metric_events.specs.Choice.{flush_points}
use Rattle.metric_events.specs.DataPoint.{DataPoint}
use Rattle.metric_events.specs.declared.event.Event.{Event}
use Rattle.back_answers.specs.Answers.{act_of}
use Rattle.back_answers.specs.declared.answer.Answer.{Answer}
use Rattle.back_answers.specs.declared.answer.Act.{Act}
use Rattle.back_answers.specs.declared.answer.Act.TheVariants.{Settle, GiveBack, DropFlush}
use Rattle.delta_book.specs.Journal.{takes}
use Rattle.delta_book.specs.Calls as call
use Rattle.delta_book.specs.Outcomes as book
use Rattle.delta_book.specs.declared.flush.Flush.{Flush}
use Rattle.delta_book.specs.declared.faults.NotLive.{NotLive}
use Rattle.delta_book.specs.declared.faults.TakeFault.{TakeFault}
use Rattle.delta_book.specs.declared.faults.TakeFault.TheVariants as fault
use Rattle.out_texts.specs.Request.{request_text}
use Rattle.gate_workers.specs.declared.flush.Turn.{Turn}
use Rattle.gate_workers.specs.declared.flush.Turn.TheVariants.{Idle, Full, NoMemory, Done}
use Rattle.gate_workers.specs.Calls.{Call, on_book}

-- the closing call of a flush
abbrev pub closing : Act → ℕ → Result (Unit {0}) NotLive → Call
closing Settle flush r = on_book (call.settle flush r)
closing GiveBack flush r = on_book (call.give_back flush r)
closing DropFlush flush r = on_book (call.drop_flush flush r)

abbrev pub IsClosing : {K : Type 0} → (K → Call → K → Type 0) → Act → ℕ → K → K → Type 0
IsClosing gives act flush k k' = (r : Result (Unit {0}) NotLive) × gives k (closing act flush r) k'

-- no flush was taken, or one was given back without memory for its text
abbrev pub IsUnsent : {K : Type 0} → (K → Call → K → Type 0) → ℕ → Result (Option Flush) TakeFault
    → K → K → Turn → Type 0
IsUnsent gives max (Ok None) m k' t = (m ≡ k') × (t ≡ Idle)
IsUnsent gives max (Ok (Some flush)) m k' t =
    IsClosing gives GiveBack flush.number m k' × (t ≡ NoMemory)
IsUnsent gives max (Err fault.Full) m k' t = (m ≡ k') × (t ≡ Full)
IsUnsent gives max (Err fault.NoMemory) m k' t = (m ≡ k') × (t ≡ NoMemory)

-- the calls of a turn in which nothing was sent
abbrev pub IsIdleTurn : {K : Type 0} → (K → Call → K → Type 0) → ℕ → K → K → Turn → Type 0
IsIdleTurn {K} gives max k k' t =
    (r : Result (Option Flush) TakeFault) × (m : K) × gives k (on_book (call.take max r)) m
    × IsUnsent gives max r m k' t

-- the calls of a turn and what was sent
abbrev pub IsTurn : {K U : Type 0} → (K → Call → K → Type 0) → (U → List ℕ → Answer → U → Type 0)
    → ℕ → K → K → U → U → Turn → Type 0
IsTurn {K} {U} gives sends max k k' u u' (Done number points answer act) =
    (flush : Flush) × (m : K) × gives k (on_book (call.take max (Ok (Some flush)))) m
    × sends u (request_text flush.points) answer u'
    × IsClosing gives (act_of answer) flush.number m k'
    × (number ≡ flush.number) × (points ≡ length flush.points) × (act ≡ act_of answer)
IsTurn gives sends max k k' u u' t = IsIdleTurn gives max k k' t × (u ≡ u')

-- where a turn is out of memory: nowhere, at its flush, or at the flush's text
pub data Want : Type 0 where
  Nowhere : Want
  ForFlush : Want
  ForText : Want

-- the result of a turn, the events that it adds, and what it sends
pub record Made : Type 0 where
  pub turn : Turn
  pub events : List Event
  pub sent : List (List ℕ)

abbrev pub without_events : Turn → Made
without_events t = record { turn = t; events = []; sent = [] }

-- the events, where an event has taken the flush f of these points and its text was sent
abbrev pub sending : ℕ → Event → List DataPoint → Answer → Made
sending f taken points answer = record {
  turn = Done f (length points) answer (act_of answer);
  events = taken ∷ book.event_of (act_of answer) f ∷ [];
  sent = request_text points ∷ [];
}

-- an event takes the flush f
abbrev pub taking : History → ℕ → Event → Answer → Want → Made
taking E f taken answer Nowhere = sending f taken (flush_points (E ▸ taken) f) answer
taking E f taken answer ForFlush = without_events NoMemory
taking E f taken answer ForText =
    record { turn = NoMemory; events = taken ∷ book.event_of GiveBack f ∷ []; sent = [] }

-- by what the take does
abbrev pub turn_by : History → ℕ → Result Event (Option TakeFault) → Answer → Want → Made
turn_by E f (Ok taken) answer want = taking E f taken answer want
turn_by E f (Err None) answer want = without_events Idle
turn_by E f (Err (Some fault.Full)) answer want = without_events Full
turn_by E f (Err (Some fault.NoMemory)) answer want = without_events NoMemory

-- the turn that takes at most max series after a history, where the back end gives this answer
abbrev pub turn_of : History → ℕ → Answer → Want → Made
turn_of E max answer want = turn_by E (takes E + 1) (book.outcome E (book.Take max)) answer want
