-- From the calls of a request to the journal.
use Rattle.std.proofs.Common.{◌≡◌, ℕ, ◌+◌, Bool, true, false, List, [], ◌∷◌, Option, Some, None}
use Rattle.std.proofs.Common.{Result, Ok, Err, refl, sym, ◌∙◌}
use Rattle.std.specs.Option.{unwrap_or}
use Rattle.metric_events.specs.DataPoint.{DataPoint}
use Rattle.metric_events.specs.declared.batch.Batch.{Batch}
use Rattle.metric_events.specs.declared.event.Event.{Event}
use Rattle.metric_events.specs.declared.event.Event.TheVariants.{Admit, Undo, Confirm, Quarantine}
use Rattle.metric_events.specs.declared.event.Event.TheVariants.{Lift}
use Rattle.back_answers.specs.declared.answer.Answer.{Answer}
use Rattle.back_answers.specs.declared.answer.Answer.TheVariants.{Unknown}
use Rattle.delta_book.specs.Journal.{history, admits, Appends}
use Rattle.delta_book.specs.Refusals.{admit_refusal, undo_refusal, confirm_refusal}
use Rattle.delta_book.specs.Refusals.{quarantine_refusal}
use Rattle.delta_book.proofs.Journaled.{grows}
use Rattle.delta_book.specs.Calls as call
use Rattle.delta_book.specs.Outcomes as book
use Rattle.delta_book.specs.declared.totals.SeriesTotals.{SeriesTotals}
use Rattle.delta_book.specs.declared.faults.AdmitFault.{AdmitFault}
use Rattle.delta_book.specs.declared.faults.AdmitFault.TheVariants as admission
use Rattle.delta_book.specs.declared.faults.UndoFault.{UndoFault}
use Rattle.delta_book.specs.declared.faults.NotOpen.{NotOpen}
use Rattle.delta_book.specs.declared.faults.QuarantineFault.{QuarantineFault}
use Rattle.delta_book.specs.declared.faults.QuarantineFault.TheVariants as holding
use Rattle.delta_book.specs.declared.faults.NotQuarantined.{NotQuarantined}
use Rattle.http_edge.specs.declared.written.Written.{Written}
use Rattle.http_edge.specs.declared.written.Written.TheVariants.{None_}
use Rattle.gate_workers.specs.declared.service.End.{End}
use Rattle.gate_workers.specs.declared.service.End.TheVariants.{NoBatch, Undone}
use Rattle.gate_workers.specs.declared.book_keeper.BookKeeper.{BookKeeper}
use Rattle.gate_workers.specs.declared.order.OrderFault.{OrderFault}
use Rattle.gate_workers.specs.declared.refusal.Refusal.{Refusal}
use Rattle.gate_workers.specs.declared.refusal.Refusal.TheVariants.{NoMemory}
use Rattle.gate_workers.specs.declared.flush.Turn.{Turn}
use Rattle.gate_workers.specs.Calls.{Call, on_book, order}
use Rattle.gate_workers.specs.Refusals.{of_admit, of_quarantine}
use Rattle.gate_workers.specs.Responses.{Response, refusal_response, or_no_memory}
use Rattle.gate_workers.specs.Requested as ask
use Rattle.gate_workers.specs.Requested.{Requested}
use Rattle.gate_workers.specs.Conversations.{IsConversation, IsPosted, SaysAdmission, IsEnded}
use Rattle.gate_workers.specs.Conversations.{IsClosed, IsUndone, SaysQuarantine, SaysLift}
use Rattle.gate_workers.specs.Conversations.{SaysOrder, SaysReport}
use Rattle.gate_workers.specs.Turns.{Want, Nowhere, turn_of}
use Rattle.gate_workers.specs.BookCalls.{KeeperGives}
use Rattle.gate_workers.specs.declared.service.Served.{Served}
use Rattle.gate_workers.specs.declared.service.Served.TheVariants.{Closed, Broken, Replied}
use Rattle.gate_workers.specs.Served.{IsServed}
use Rattle.gate_workers.specs.ServedBook.{IsServedBook, Effects, HasEffects, IsOneOf, served}
use Rattle.gate_workers.specs.ServedBook.{admission_effects, by_call, done, flush_effects}
use Rattle.gate_workers.specs.ServedBook.{only_says, unless_marked, end_by, closed_by}
use Rattle.gate_workers.proofs.BookTurns.{nothing_added, two_added}

abbrev pub KeeperOver : {U : Type 0} → (U → List ℕ → Answer → U → Type 0) → BookKeeper U → Call
    → BookKeeper U → Type 0
KeeperOver sends k c w = (w.seated.seat ≡ k.seated.seat) × (w.max ≡ k.max)
    × KeeperGives sends k.seated.seat k.max k.seated.book k.uplink c w.seated.book w.uplink

marked_only : (mark : Bool) (r : Response)
    → unless_marked mark (only_says r) ≡ only_says (or_no_memory mark r)
marked_only true r = refl
marked_only false r = refl

marked_memory : (mark : Bool)
    → or_no_memory mark (refusal_response NoMemory) ≡ refusal_response NoMemory
marked_memory true = refl
marked_memory false = refl

-- a refusal that was said, or that there was no memory
refused_or : {F : Type 0} (of : F → Refusal) (none : F) (refusal : Option F)
    (effects : Event → Effects) (e : Event) (mark : Bool) → of none ≡ NoMemory
    → (m : Bool) × (unless_marked m (by_call of effects (book.unless e refusal))
    ≡ only_says (or_no_memory mark (refusal_response (of (unwrap_or refusal none)))))
refused_or of none None effects e mark memory = (true, rw (memory, marked_memory))
refused_or of none (Some f) effects e true memory = (true, refl)
refused_or of none (Some f) effects e false memory = (false, refl)

-- a batch that was just admitted is closed, by this event
abbrev Closes : {U : Type 0} → BookKeeper U → BookKeeper U → Event → Type 0
Closes m k e = (k.seated.seat ≡ m.seated.seat) × (k.max ≡ m.max) × (k.uplink ≡ m.uplink)
    × Appends m.seated.book k.seated.book m.seated.seat e

module _ {U : Type 0} (sends : U → List ℕ → Answer → U → Type 0) where
  confirmed : (m k : BookKeeper U) (n : ℕ) (r : Result (Unit {0}) NotOpen)
      → confirm_refusal (history m.seated.book) n ≡ None
      → KeeperOver sends m (on_book (call.confirm n r)) k → Closes m k (Confirm n)
  confirmed m k n (Ok x) opened h = (h.0, h.1, h.2.0, h.2.1.journal)
  confirmed m k n (Err x) opened h = let no : None ≡ Some x = sym opened ∙ h.2.1.answers in cc

  undone : (m w k : BookKeeper U) (n : ℕ) (end : End) (r : Result (Unit {0}) UndoFault)
      → undo_refusal (history m.seated.book) n ≡ None
      → KeeperOver sends m (on_book (call.undo n r)) w
      → IsUndone (KeeperOver sends) n r w k end → Closes m k (Undo n) × (end ≡ Undone)
  undone m w k n end (Ok x) can h e = rw (← e.0) ((h.0, h.1, h.2.0, h.2.1.journal), e.1)
  undone m w k n end (Err fault) can h e = let no : None ≡ Some fault = sym can ∙ h.2.1.answers in
      cc

  closed : (m k : BookKeeper U) (n : ℕ) (end : End) (written : Written)
      → confirm_refusal (history m.seated.book) n ≡ None
      → undo_refusal (history m.seated.book) n ≡ None
      → IsClosed (KeeperOver sends) n written m k end
      → Closes m k (closed_by written n) × (end ≡ end_by written)
  closed m k n end None_ opened can h = undone m h.1 k n end h.0 can h.2 h.3
  closed m k n end written opened can h = (confirmed m k n h.0 opened h.1, h.2)

  module _ (written : Written) (k : BookKeeper U) (response : Response) where
    -- the seat and the size stay, and the journal, the uplink and the response are those of the
    -- definition
    record IsKept (asked : Requested) (m : BookKeeper U) (end : End) : Type 0 where
      seat : m.seated.seat ≡ k.seated.seat
      max : m.max ≡ k.max
      one : IsOneOf sends k.seated.seat k.max asked written k.seated.book m.seated.book k.uplink
          m.uplink response end

    -- a request with these effects
    kept_by : {asked : Requested} {m : BookKeeper U} {end : End} (answer : Answer) (mark : Bool)
        (want : Want) (o : Effects) → m.seated.seat ≡ k.seated.seat → m.max ≡ k.max
        → served asked (history k.seated.book) k.max answer written mark want ≡ o
        → HasEffects sends k.seated.seat answer k.seated.book m.seated.book k.uplink m.uplink o
        response end → IsKept asked m end
    kept_by answer mark want o seat max is has =
        record { seat = seat; max = max; one = (answer, mark, want, rw is has) }

    -- a request without effects but its response
    silent : {asked : Requested} {m : BookKeeper U} (mark : Bool) (r : Response)
        → m.seated.seat ≡ k.seated.seat → m.max ≡ k.max → m.seated.book ≡ k.seated.book
        → m.uplink ≡ k.uplink
        → served asked (history k.seated.book) k.max Unknown written mark Nowhere ≡ only_says r
        → response ≡ r → IsKept asked m NoBatch
    silent mark r seat max same_book same_uplink is says =
        kept_by Unknown mark Nowhere (only_says r) seat max is
        (record {
          says = says;
          ends = refl;
          adds =
              nothing_added k.seated.seat _ _ same_book;
          sent = same_uplink;
        })

    kept_held : (s : List ℕ) (m : BookKeeper U) (r : Result (Unit {0}) QuarantineFault)
        → KeeperOver sends k (on_book (call.quarantine s r)) m → SaysQuarantine r response
        → IsKept (ask.Quarantine s) m NoBatch
    kept_held s m (Ok x) h says =
        kept_by Unknown false Nowhere (done (Quarantine s)) h.0 h.1 (rw h.2.1.answers)
        (record { says = says; ends = refl; adds = h.2.1.journal; sent = h.2.0 })
    kept_held s m (Err fault) h says =
        let x = refused_or of_quarantine holding.NoMemory
        (quarantine_refusal (history k.seated.book) s) done (Quarantine s) says.0 refl in
        silent x.0 _ h.0 h.1 h.2.1.journal h.2.0 (rw h.2.1.answers x.1) says.1

    kept_lifted : (s : List ℕ) (m : BookKeeper U) (r : Result (Unit {0}) NotQuarantined)
        → KeeperOver sends k (on_book (call.lift s r)) m → SaysLift r response
        → IsKept (ask.Lift s) m NoBatch
    kept_lifted s m (Ok x) h says = kept_by Unknown false Nowhere (done (Lift s)) h.0 h.1
        (rw h.2.1.answers) (record { says = says; ends = refl; adds = h.2.1.journal; sent = h.2.0 })
    kept_lifted s m (Err fault) h says =
        silent says.0 _ h.0 h.1 h.2.1.journal h.2.0 (rw h.2.1.answers (marked_only says.0 _)) says.1

    kept_ordered : (m : BookKeeper U) (r : Result Turn OrderFault) → KeeperOver sends k (order r) m
        → SaysOrder r response → IsKept ask.FlushNow m NoBatch
    kept_ordered m (Ok t) h says =
        let made = h.2 in
        kept_by made.0 says.0 made.1 (flush_effects says.0
        (turn_of (history k.seated.book) k.max made.0 made.1)) h.0 h.1 refl
        (record { says = rw made.2 at says.1; ends = refl; adds = made.3; sent = made.4 })
    kept_ordered m (Err fault) h says = absurd h.2

    kept_report : (m : BookKeeper U) (rows : Option (List SeriesTotals))
        → KeeperOver sends k (on_book (call.totals rows)) m → SaysReport rows response
        → IsKept ask.Report m NoBatch
    kept_report m None h says =
        silent true _ h.0 h.1 h.2.1.journal h.2.0 refl (says.1 ∙ marked_memory says.0)
    kept_report m (Some rows) h says =
        silent says.0 _ h.0 h.1 h.2.1.journal h.2.0 (marked_only says.0 _)
        (rw h.2.1.answers at says.1)

    -- without a batch nothing follows the response
    ended : {asked : Requested} (m k' : BookKeeper U) (end : End) (batch : Option ℕ) → batch ≡ None
        → IsEnded (KeeperOver sends) batch written m k' end → IsKept asked m NoBatch
        → IsKept asked k' end
    ended m k' end None is e h = rw (← e.0, e.1) h
    ended m k' end (Some n) is e h = let no : Some n ≡ None = is in cc

    kept_admitted : (body : Batch) (text : List ℕ) (p : DataPoint) (ps : List DataPoint)
        (m k' : BookKeeper U) (end : End) (r : Result ℕ (AdmitFault × Batch)) (batch : Option ℕ)
        → body.points ≡ p ∷ ps
        → KeeperOver sends k (on_book (call.admit (record { sender = body.sender; points = p ∷ ps })
        r)) m → SaysAdmission text r response batch
        → IsEnded (KeeperOver sends) batch written m k' end
        → IsKept (ask.Metrics body text) k' end
    kept_admitted body text p ps m k' end (Ok n) batch some h a e =
        let J = k.seated.book in
        let event = Admit n (record { sender = body.sender; points = p ∷ ps }) in
        let is_in = h.2.1.answers in
        let grown = grows J m.seated.book k.seated.seat event h.2.1.journal in
        let c = closed m k' n end written (rw grown is_in.opened) (rw grown is_in.undoable)
        (rw a.1 at e) in
        let then : Appends m.seated.book k'.seated.book k.seated.seat (closed_by written n) =
        rw h.0 at c.0.3 in
        kept_by Unknown false Nowhere (admission_effects n text written event) (c.0.0 ∙ h.0)
        (c.0.1 ∙ h.1) (rw (some, is_in.none, ← is_in.number))
        (record {
          says = a.0;
          ends = c.1;
          adds =
              two_added k.seated.seat J m.seated.book k'.seated.book event (closed_by written n)
              h.2.1.journal then;
          sent = c.0.2 ∙ h.2.0;
        })
    kept_admitted body text p ps m k' end (Err fault) batch some h a e =
        let E = history k.seated.book in
        let content : Batch = record { sender = body.sender; points = p ∷ ps } in
        let x = refused_or of_admit admission.NoMemory (admit_refusal E content)
        (admission_effects (admits E + 1) text written) (Admit (admits E + 1) content) a.0.0
        refl in
        ended m k' end batch a.1 e
        (silent x.0 _ h.0 h.1 h.2.1.journal h.2.0 (rw (some, h.2.1.answers.0) x.1) a.0.1)

    kept_posted : (body : Batch) (text : List ℕ) (points : List DataPoint) (m k' : BookKeeper U)
        (end : End) (batch : Option ℕ) → body.points ≡ points
        → IsPosted (KeeperOver sends) body.sender points text k m response batch
        → IsEnded (KeeperOver sends) batch written m k' end
        → IsKept (ask.Metrics body text) k' end
    kept_posted body text [] m k' end batch none h e =
        ended m k' end batch h.2 e (rw (← h.0) (silent false _ refl refl refl refl (rw none) h.1))
    kept_posted body text (p ∷ ps) m k' end batch some h e =
        kept_admitted body text p ps m k' end h.0 batch some h.1 h.2 e

    kept : (asked : Requested) (k' : BookKeeper U) (end : End)
        → IsConversation (KeeperOver sends) asked k k' response written end → IsKept asked k' end
    kept (ask.Metrics body text) k' end h =
        kept_posted body text body.points h.0 k' end h.1 refl h.2 h.3
    kept (ask.Quarantine s) k' end h =
        ended h.0 k' end h.1 h.2.1 h.3 (kept_held s h.0 h.2.0.0 h.2.0.1 h.2.0.2)
    kept (ask.Lift s) k' end h =
        ended h.0 k' end h.1 h.2.1 h.3 (kept_lifted s h.0 h.2.0.0 h.2.0.1 h.2.0.2)
    kept ask.FlushNow k' end h =
        ended h.0 k' end h.1 h.2.1 h.3 (kept_ordered h.0 h.2.0.0 h.2.0.1 h.2.0.2)
    kept ask.Report k' end h =
        ended h.0 k' end h.1 h.2.1 h.3 (kept_report h.0 h.2.0.0 h.2.0.1 h.2.0.2)
    kept (ask.Refused why) k' end h =
        ended h.0 k' end h.1 h.2.2 h.3
        (rw (← h.2.0) (silent h.2.1.0 _ refl refl refl refl (marked_only h.2.1.0 _) h.2.1.1))

  -- a request that was served over a keeper is served over its book
  pub record IsServedKeeper (input : Option (List ℕ)) (k k' : BookKeeper U)
      (old new : Option (List ℕ)) (s : Served) : Type 0 where
    pub seat : k'.seated.seat ≡ k.seated.seat
    pub max : k'.max ≡ k.max
    pub served : IsServedBook sends k.seated.seat k.max input k.seated.book k'.seated.book k.uplink
        k'.uplink old new s

  pub served_keeper : (input : Option (List ℕ)) (k k' : BookKeeper U) (old new : Option (List ℕ))
      (s : Served) → IsServed (KeeperOver sends) input k k' old new s
      → IsServedKeeper input k k' old new s
  served_keeper input k k' old new Closed h =
      rw (← h.1, ← h.2) (record { seat = refl; max = refl; served = (h.0, refl, refl, refl) })
  served_keeper input k k' old new Broken h =
      rw (← h.0, ← h.1) (record { seat = refl; max = refl; served = (refl, refl, refl) })
  served_keeper input k k' old new (Replied status written end) h =
      let c = kept written k h.1 h.0 k' end h.3 in
      record { seat = c.seat; max = c.max; served = (h.0, h.1, h.2, c.one, h.4) }
