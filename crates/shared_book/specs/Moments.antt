-- What a call on a shared book says of the journal, which other threads change too.
use Rattle.std.specs.Prelude.{◌≡◌, ◌≢◌, ℕ, ◌<◌, ◌≤◌, length, Some, None, Err}
use Rattle.std.specs.declared.option.Option.{Option}
use Rattle.std.specs.List.{All}
use Rattle.metric_events.specs.Legal.{IsLegal}
use Rattle.metric_events.specs.declared.opening.Opening.{Opening}
use Rattle.metric_events.specs.declared.entry.Entry.{Entry}
use Rattle.metric_events.specs.declared.event.Event.{Event}
use Rattle.delta_book.specs.Journal.{Journal, history, IsNumbered}
use Rattle.delta_book.specs.Refusals.{admit_refusal}
use Rattle.delta_book.specs.Calls.{Call, admit, added, IsCall}
use Rattle.delta_book.specs.declared.faults.AdmitFault.TheVariants.{NoMemory}
use Rattle.shared_book.specs.Receipts.{SeatView, with_receipt, receipt_of}

-- an entry of one of so many seats
abbrev pub IsOfSeat : ℕ → Entry → Type 0
IsOfSeat seats e = e.seat < seats

-- a journal that so many seats may have in the round with this opening: legal, its batches and
-- flushes numbered consecutively, each entry of one of the seats
pub record IsShared (seats : ℕ) (opening : Opening) (j : Journal) : Type 0 where
  pub opened : j.opening ≡ opening
  pub legal : IsLegal (history j)
  pub numbered : IsNumbered (history j)
  pub of_seats : All (IsOfSeat seats) j.entries

-- such a journal, no shorter than the seat's receipts
pub record IsMoment (seats : ℕ) (opening : Opening) (t : SeatView) (j : Journal) : Type 0 where
  pub shared : IsShared seats opening j
  pub long : length t.receipts ≤ length j.entries

-- the seat with the receipt of that event, at this index of the journal
abbrev pub seat_with : SeatView → ℕ → Option Event → SeatView
seat_with t index None = t
seat_with t index (Some e) = with_receipt t (receipt_of index e)

-- a call from a seat, on such a journal: it is the call of a book with that journal, and the seat
-- gets the receipt of the event that it adds
pub record IsCallAt
    (seats : ℕ) (opening : Opening) (J J' : Journal) (t t' : SeatView) (c : Call) : Type 0 where
  pub moment : IsMoment seats opening t J
  pub call : IsCall t.number J J' c
  pub shared : IsShared seats opening J'
  pub receipt : t' ≡ seat_with t (length J.entries) (added (history J) c)

-- the same, for some journal and the one that it becomes. An admission may also be out of memory
-- before it looks at a journal
abbrev pub IsSharedCall : ℕ → Opening → SeatView → SeatView → Call → Type 0
IsSharedCall seats opening t t' (admit body (Err e)) =
    (t' ≡ t) × (e.1 ≡ body) × (e.0 ≢ NoMemory
    → (J : Journal) × IsMoment seats opening t J × (admit_refusal (history J) body ≡ Some e.0))
IsSharedCall seats opening t t' c =
    (J : Journal) × (J' : Journal) × IsCallAt seats opening J J' t t' c
