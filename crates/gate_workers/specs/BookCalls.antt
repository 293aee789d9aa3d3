-- How calls change a book, and a keeper with a book.
use Rattle.std.specs.Prelude.{◌≡◌, ℕ, List, [], ◌∷◌, ◌++◌, map, Ok, Err}
use Rattle.metric_events.specs.declared.entry.Entry.{Entry}
use Rattle.metric_events.specs.declared.event.Event.{Event}
use Rattle.delta_book.specs.Journal.{Journal, journal_of, history}
use Rattle.delta_book.specs.Calls.{IsCall}
use Rattle.back_answers.specs.declared.answer.Answer.{Answer}
use Rattle.gate_workers.specs.declared.flush.Turn.{Turn}
use Rattle.gate_workers.specs.Calls.{Call, on_book, order}
use Rattle.gate_workers.specs.Turns.{Want, turn_of}

abbrev pub entry_of : ℕ → Event → Entry
entry_of seat event = record { seat = seat; event = event }

-- the journal grew by these events, from this seat
abbrev pub Adds : ℕ → Journal → Journal → List Event → Type 0
Adds seat old new events = new ≡ journal_of old.opening (old.entries ++ map (entry_of seat) events)

-- how a call with its answer changes a journal: as the book's call does; a book takes no orders
abbrev pub BookGives : ℕ → Journal → Call → Journal → Type 0
BookGives seat J (on_book c) J' = IsCall seat J J' c
BookGives seat J (order r) J' = ⊥

-- what was sent, one after another
abbrev pub AreSent : {U : Type 0} → (U → List ℕ → Answer → U → Type 0) → Answer → U → List (List ℕ)
    → U → Type 0
AreSent sends answer u [] u' = u' ≡ u
AreSent {U} sends answer u (x ∷ xs) u' = (m : U) × sends u x answer m × AreSent sends answer m xs u'

-- a turn of a journal: its result, the events that it adds and what it sends
abbrev pub IsMade : {U : Type 0} → (U → List ℕ → Answer → U → Type 0) → ℕ → ℕ → Journal → Journal
    → U → U → Turn → Type 0
IsMade sends seat max J J' u u' t =
    (answer : Answer) × (want : Want) × (t ≡ (turn_of (history J) max answer want).turn)
    × Adds seat J J' (turn_of (history J) max answer want).events
    × AreSent sends answer u (turn_of (history J) max answer want).sent u'

-- how a call changes a keeper with a book, of this seat, and of so many series a flush
abbrev pub KeeperGives : {U : Type 0} → (U → List ℕ → Answer → U → Type 0) → ℕ → ℕ → Journal → U
    → Call → Journal → U → Type 0
KeeperGives sends seat max J u (on_book c) J' u' = (u' ≡ u) × IsCall seat J J' c
KeeperGives sends seat max J u (order (Ok t)) J' u' = IsMade sends seat max J J' u u' t
KeeperGives sends seat max J u (order (Err e)) J' u' = ⊥
