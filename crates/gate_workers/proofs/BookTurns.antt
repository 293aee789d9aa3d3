-- From the calls of a turn to the journal.
use Rattle.std.proofs.Common.{◌≡◌, ◌≢◌, ℕ, Bool, true, false, List, [], ◌∷◌, ◌++◌, length, Option}
use Rattle.std.proofs.Common.{Some, None, Result, Ok, Err, refl, sym, ap, ◌∙◌, if◌then◌else◌}
use Rattle.std.proofs.Common.{append_assoc, append-nil}
use Rattle.series_id.specs.Identity.{Identity}
use Rattle.metric_events.specs.Choice.{pick}
use Rattle.metric_events.specs.declared.event.Event.{Event}
use Rattle.metric_events.specs.declared.event.Event.TheVariants.{Take, GiveBack as GivenBack}
use Rattle.back_answers.specs.Answers.{act_of}
use Rattle.back_answers.specs.declared.answer.Answer.{Answer}
use Rattle.back_answers.specs.declared.answer.Answer.TheVariants.{Unknown}
use Rattle.back_answers.specs.declared.answer.Act.{Act}
use Rattle.back_answers.specs.declared.answer.Act.TheVariants.{Settle, GiveBack}
use Rattle.delta_book.specs.Journal.{Journal, journal_of, history, Appends}
use Rattle.delta_book.proofs.Journaled.{grows}
use Rattle.delta_book.specs.Refusals.{flush_refusal}
use Rattle.delta_book.specs.Flushes.{is_full}
use Rattle.delta_book.specs.Calls as call
use Rattle.delta_book.specs.Calls.{IsCall}
use Rattle.delta_book.specs.declared.flush.Flush.{Flush}
use Rattle.delta_book.specs.declared.faults.NotLive.{NotLive}
use Rattle.delta_book.specs.declared.faults.TakeFault.{TakeFault}
use Rattle.delta_book.specs.declared.faults.TakeFault.TheVariants as fault
use Rattle.gate_workers.specs.declared.book_keeper.SeatedBook.{SeatedBook}
use Rattle.gate_workers.specs.declared.flush.Turn.{Turn}
use Rattle.gate_workers.specs.declared.flush.Turn.TheVariants.{Idle, Full, NoMemory, Done}
use Rattle.gate_workers.specs.Calls.{Call, on_book}
use Rattle.gate_workers.specs.Turns.{IsTurn, IsIdleTurn, IsUnsent, closing, Want, Nowhere, ForFlush}
use Rattle.gate_workers.specs.Turns.{ForText, Made, sending, turn_of, without_events}
use Rattle.delta_book.specs.Outcomes as book
use Rattle.gate_workers.specs.BookCalls.{BookGives, Adds, AreSent, IsMade, entry_of}
use Rattle.out_texts.specs.Request.{request_text}

abbrev pub SeatedGives : SeatedBook → Call → SeatedBook → Type 0
SeatedGives k c w = (w.seat ≡ k.seat) × BookGives k.seat k.book c w.book

pub nothing_added : (seat : ℕ) (J J' : Journal) → J' ≡ J → Adds seat J J' []
nothing_added seat J J' h = h ∙ ap (journal_of J.opening) (sym (append-nil J.entries))

pub two_added : (seat : ℕ) (J M J' : Journal) (e f : Event) → Appends J M seat e
    → Appends M J' seat f → Adds seat J J' (e ∷ f ∷ [])
two_added seat J M J' e f h k =
    k ∙ ap (λ (x : Journal). journal_of x.opening (x.entries ++ entry_of seat f ∷ [])) h
    ∙ ap (journal_of J.opening)
    (append_assoc J.entries (entry_of seat e ∷ []) (entry_of seat f ∷ []))

-- a take of some series
refused : (f : ℕ) (xs : List Identity) (e : TakeFault) → xs ≢ []
    → book.take_of f xs (Some e) ≡ Err (Some e)
refused f [] e some = absurd (some refl)
refused f (x ∷ xs) e some = refl

taken : (f : ℕ) (xs : List Identity) → xs ≢ [] → book.take_of f xs None ≡ Ok (Take f xs)
taken f [] some = absurd (some refl)
taken f (x ∷ xs) some = refl

-- what a fault of a take makes of a turn
abbrev turn_of_fault : TakeFault → Turn
turn_of_fault fault.Full = Full
turn_of_fault fault.NoMemory = NoMemory

module _ (seat max : ℕ) (J M J' : Journal) (flush : Flush) where
  -- a flush is taken of a journal
  abbrev IsTaken : Type 0
  IsTaken = IsCall seat J M (call.take max (Ok (Some flush)))

  -- then it is live
  is_live : (x : NotLive) → IsTaken → flush_refusal (history M) flush.number ≡ Some x → ⊥
  is_live x h is = let no : None ≡ Some x =
      sym (ap (λ E. flush_refusal E flush.number) (grows J M seat _ h.journal) ∙ h.answers.live)
      ∙ is in cc

  -- the events of a flush that was taken and ended
  both_added : (act : Act) (r : Result (Unit {0}) NotLive) → IsTaken
      → BookGives seat M (closing act flush.number r) J'
      → Adds seat J J'
      (Take flush.number (pick (history J) max) ∷ book.event_of act flush.number ∷ [])
  both_added Settle (Ok x) h e = two_added seat J M J' _ _ h.journal e.journal
  both_added Settle (Err x) h e = absurd (is_live x h e.answers)
  both_added act (Ok x) h e = two_added seat J M J' _ _ h.journal e.journal
  both_added act (Err x) h e = absurd (is_live x h e.answers)

module _ {U : Type 0} (sends : U → List ℕ → Answer → U → Type 0) (max : ℕ) where
  module _ (seat : ℕ) (J J' : Journal) (u u' : U) where
    -- a turn over a journal, where it is that one
    made : {t : Turn} (answer : Answer) (want : Want) (m : Made)
        → turn_of (history J) max answer want ≡ m → t ≡ m.turn → Adds seat J J' m.events
        → AreSent sends answer u m.sent u' → IsMade sends seat max J J' u u' t
    made answer want m is turn adds sent = (answer, want, rw is turn, rw is adds, rw is sent)

    -- nothing may be taken
    idle_turn : pick (history J) max ≡ [] → J' ≡ J → u' ≡ u → IsMade sends seat max J J' u u' Idle
    idle_turn none same_book same_uplink =
        made Unknown Nowhere (without_events Idle) (rw none) refl
        (nothing_added seat J J' same_book) same_uplink

    -- a take was refused
    refused_turn : (e : TakeFault) (full : Bool) → is_full (history J) ≡ full
        → e ≡ (if full then fault.Full else fault.NoMemory) → pick (history J) max ≢ [] → J' ≡ J
        → u' ≡ u
        → IsMade sends seat max J J' u u' (turn_of_fault e)
    refused_turn e true is why some same_book same_uplink =
        made Unknown Nowhere (without_events Full) (rw (is, refused _ _ fault.Full some))
        (ap turn_of_fault why) (nothing_added seat J J' same_book) same_uplink
    refused_turn e false is why some same_book same_uplink =
        made Unknown ForFlush (without_events NoMemory) (rw (is, taken _ _ some))
        (ap turn_of_fault why) (nothing_added seat J J' same_book) same_uplink

    -- a flush whose text found no memory was given back
    returned_turn : (M : Journal) (flush : Flush) (r : Result (Unit {0}) NotLive)
        → IsTaken seat max J M J' flush → BookGives seat M (closing GiveBack flush.number r) J'
        → u' ≡ u
        → IsMade sends seat max J J' u u' NoMemory
    returned_turn M flush r h e same_uplink =
        made Unknown ForText (record {
          turn = NoMemory;
          events =
              Take flush.number (pick (history J) max) ∷ GivenBack flush.number ∷ [];
          sent = [];
        })
        (rw (h.answers.room, taken _ _ h.answers.some, ← h.answers.number)) refl
        (both_added seat max J M J' flush GiveBack r h e) same_uplink

    -- a flush was sent and ended
    sent_turn : (M : Journal) (flush : Flush) (answer : Answer) (r : Result (Unit {0}) NotLive)
        → IsTaken seat max J M J' flush → sends u (request_text flush.points) answer u'
        → BookGives seat M (closing (act_of answer) flush.number r) J'
        → IsMade sends seat max J J' u u'
        (Done flush.number (length flush.points) answer (act_of answer))
    sent_turn M flush answer r h sent e =
        made answer Nowhere
        (sending flush.number (Take flush.number (pick (history J) max)) flush.points answer)
        (rw (h.answers.room, taken _ _ h.answers.some, ← h.answers.number, ← h.answers.points)) refl
        (both_added seat max J M J' flush (act_of answer) r h e) (u', sent, refl)

  -- a turn of a seated book: its seat stays, and the turn is that of its journal
  abbrev pub IsSeatedTurn : SeatedBook → SeatedBook → U → U → Turn → Type 0
  IsSeatedTurn k k' u u' t = (k'.seat ≡ k.seat) × IsMade sends k.seat max k.book k'.book u u' t

  unsent : (k m k' : SeatedBook) (u : U) (t : Turn) (r : Result (Option Flush) TakeFault)
      → SeatedGives k (on_book (call.take max r)) m → IsUnsent SeatedGives max r m k' t
      → IsSeatedTurn k k' u u t
  unsent k m k' u t (Ok None) h e =
      rw (← e.0, e.1) (h.0, idle_turn k.seat k.book m.book u u h.1.answers h.1.journal refl)
  unsent k m k' u t (Ok (Some flush)) h e =
      rw e.1 (
        e.0.1.0 ∙ h.0,
        returned_turn k.seat k.book k'.book u u m.book flush e.0.0 h.1
            (rw h.0 at e.0.1.1) refl,
      )
  unsent k m k' u t (Err fault.Full) h e =
      rw (← e.0, e.1) (
        h.0,
        refused_turn k.seat k.book m.book u u fault.Full
            (is_full (history k.book)) refl h.1.answers.1 h.1.answers.0 h.1.journal refl,
      )
  unsent k m k' u t (Err fault.NoMemory) h e =
      rw (← e.0, e.1) (
        h.0,
        refused_turn k.seat k.book m.book u u fault.NoMemory
            (is_full (history k.book)) refl h.1.answers.1 h.1.answers.0 h.1.journal refl,
      )

  idle : (k k' : SeatedBook) (u u' : U) (t : Turn) → IsIdleTurn SeatedGives max k k' t → u ≡ u'
      → IsSeatedTurn k k' u u' t
  idle k k' u u' t h same_uplink = rw (← same_uplink) (unsent k h.1 k' u t h.0 h.2 h.3)

  pub seated_turn : (k k' : SeatedBook) (u u' : U) (t : Turn)
      → IsTurn SeatedGives sends max k k' u u' t → IsSeatedTurn k k' u u' t
  seated_turn k k' u u' (Done number points answer act) h =
      rw (h.5, h.6, h.7) (
        h.4.1.0 ∙ h.2.0,
        sent_turn k.seat k.book k'.book u u' h.1.book h.0 answer
            h.4.0 h.2.1 h.3 (rw h.2.0 at h.4.1.1),
      )
  seated_turn k k' u u' t h = idle k k' u u' t h.0 h.1
