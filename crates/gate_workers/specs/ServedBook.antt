-- The effects of a request after a history: its response, the events that it adds and what it
-- sends.
use Rattle.std.specs.Prelude.{◌≡◌, ℕ, ◌+◌, Bool, true, false, List, [], ◌∷◌, codes, Option, Some}
use Rattle.std.specs.Prelude.{Result, Ok, Err}
use Rattle.metric_events.specs.DataPoint.{DataPoint}
use Rattle.metric_events.specs.History.{History}
use Rattle.metric_events.specs.declared.event.Event.{Event}
use Rattle.metric_events.specs.declared.event.Event.TheVariants.{Undo, Confirm}
use Rattle.back_answers.specs.declared.answer.Answer.{Answer}
use Rattle.delta_book.specs.Journal.{Journal, history, admits}
use Rattle.delta_book.specs.Outcomes as book
use Rattle.delta_book.specs.Totals.{totals_rows}
use Rattle.http_edge.specs.declared.written.Written.{Written}
use Rattle.http_edge.specs.declared.written.Written.TheVariants.{None_}
use Rattle.gate_workers.specs.declared.service.End.{End}
use Rattle.gate_workers.specs.declared.service.End.TheVariants.{NoBatch, Confirmed, Undone}
use Rattle.gate_workers.specs.declared.refusal.Refusal.{Refusal}
use Rattle.gate_workers.specs.declared.refusal.Refusal.TheVariants.{NoMemory}
use Rattle.gate_workers.specs.declared.service.Served.{Served}
use Rattle.gate_workers.specs.declared.service.Served.TheVariants.{Closed, Broken, Replied}
use Rattle.gate_workers.specs.Refusals.{of_admit, of_quarantine, of_lift}
use Rattle.gate_workers.specs.Requested as ask
use Rattle.gate_workers.specs.Requested.{Requested}
use Rattle.gate_workers.specs.Asks.{IsHeard, IsEmpty}
use Rattle.gate_workers.specs.Responses.{Response, json_response, refusal_response, or_no_memory}
use Rattle.gate_workers.specs.Responses.{turn_response, report_response, IsSaid}
use Rattle.gate_workers.specs.Turns.{Want, Made, turn_of}
use Rattle.gate_workers.specs.BookCalls.{Adds, AreSent}

pub record Effects : Type 0 where
  pub response : Response
  pub end : End
  pub events : List Event
  pub sent : List (List ℕ)

-- nothing happens
abbrev pub only_says : Response → Effects
only_says r = record { response = r; end = NoBatch; events = []; sent = [] }

-- by what a call of the book does: its event, or a refusal of its fault
abbrev pub by_call : {F : Type 0} → (F → Refusal) → (Event → Effects) → Result Event F → Effects
by_call why effects (Ok e) = effects e
by_call why effects (Err fault) = only_says (refusal_response (why fault))

-- a batch is undone where nothing of its response was written, and else confirmed
abbrev pub end_by : Written → End
end_by None_ = Undone
end_by written = Confirmed

abbrev pub closed_by : Written → ℕ → Event
closed_by None_ b = Undo b
closed_by written b = Confirm b

-- a batch b that an event admits
abbrev pub admission_effects : ℕ → List ℕ → Written → Event → Effects
admission_effects b text written admitted =
    record {
      response = json_response text;
      end = end_by written;
      events = admitted ∷ closed_by written b ∷ [];
      sent = [];
    }

-- a batch without points needs no call
abbrev pub post_effects : History → List ℕ → List DataPoint → List ℕ → Written → Effects
post_effects E sender [] text written = only_says (json_response text)
post_effects E sender (p ∷ ps) text written =
    by_call of_admit (admission_effects (admits E + 1) text written)
    (book.outcome E (book.Admit (record { sender = sender; points = p ∷ ps })))

-- the event, and a response with an empty object
abbrev pub done : Event → Effects
done e =
    record { response = json_response (codes "{}"); end = NoBatch; events = e ∷ []; sent = [] }

-- a turn has its effects, also without memory for the response's text
abbrev pub flush_effects : Bool → Made → Effects
flush_effects mark made =
    record {
      response = or_no_memory mark (turn_response made.turn);
      end = NoBatch;
      events = made.events;
      sent = made.sent;
    }

-- a marked request is out of memory
abbrev pub unless_marked : Bool → Effects → Effects
unless_marked true o = only_says (refusal_response NoMemory)
unless_marked false o = o

-- the effects of a request: by what it asks, the history, the most series of a flush, the back
-- end's answer, how much of the response was written, and where it was out of memory
abbrev pub served : Requested → History → ℕ → Answer → Written → Bool → Want → Effects
served (ask.Metrics body text) E max answer written mark want =
    unless_marked mark (post_effects E body.sender body.points text written)
served (ask.Quarantine s) E max answer written mark want =
    unless_marked mark (by_call of_quarantine done (book.outcome E (book.Quarantine s)))
served (ask.Lift s) E max answer written mark want =
    unless_marked mark (by_call of_lift done (book.outcome E (book.Lift s)))
served ask.FlushNow E max answer written mark want = flush_effects mark (turn_of E max answer want)
served ask.Report E max answer written mark want =
    unless_marked mark (only_says (report_response (Some (totals_rows E))))
served (ask.Refused why) E max answer written mark want =
    unless_marked mark (only_says (refusal_response why))

-- the journal, the uplink and the response are those of the effects
pub record HasEffects {U : Type 0} (sends : U → List ℕ → Answer → U → Type 0) (seat : ℕ)
    (answer : Answer) (J J' : Journal) (u u' : U) (o : Effects) (response : Response)
    (end : End) : Type 0 where
  pub says : response ≡ o.response
  pub ends : end ≡ o.end
  pub adds : Adds seat J J' o.events
  pub sent : AreSent sends answer u o.sent u'

abbrev pub IsOneOf : {U : Type 0} → (U → List ℕ → Answer → U → Type 0) → ℕ → ℕ → Requested → Written
    → Journal → Journal → U → U → Response → End → Type 0
IsOneOf sends seat max asked written J J' u u' response end =
    (answer : Answer) × (mark : Bool) × (want : Want)
    × HasEffects sends seat answer J J' u u' (served asked (history J) max answer written mark want)
    response end

-- a request was served with a book: what its bytes ask for has its effects
abbrev pub IsServedBook : {U : Type 0} → (U → List ℕ → Answer → U → Type 0) → ℕ → ℕ
    → Option (List ℕ) → Journal → Journal → U → U → Option (List ℕ) → Option (List ℕ) → Served
    → Type 0
IsServedBook sends seat max input J J' u u' old new Closed =
    IsEmpty input × (J' ≡ J) × (u' ≡ u) × (new ≡ old)
IsServedBook sends seat max input J J' u u' old new Broken = (J' ≡ J) × (u' ≡ u) × (new ≡ old)
IsServedBook sends seat max input J J' u u' old new (Replied status written end) =
    (asked : Requested) × (response : Response) × IsHeard input asked
    × IsOneOf sends seat max asked written J J' u u' response end
    × IsSaid old new response status written
