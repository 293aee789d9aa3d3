-- The receipts of a seat, and those that it should have by a journal.
use Rattle.std.specs.Prelude.{ℕ, zero, suc, ◌+◌, ◌==◌, List, [], ◌∷◌, ◌++◌, Some, None}
use Rattle.std.specs.Prelude.{if◌then◌else◌}
use Rattle.std.specs.declared.option.Option.{Option}
use Rattle.metric_events.specs.declared.batch.Batch.{Batch}
use Rattle.metric_events.specs.declared.entry.Entry.{Entry}
use Rattle.metric_events.specs.declared.event.Event.{Event}
use Rattle.metric_events.specs.declared.event.Event.TheVariants.{Admit, Undo, Confirm, Take, Settle}
use Rattle.metric_events.specs.declared.event.Event.TheVariants.{Drop, GiveBack, Quarantine, Lift}
use Rattle.shared_book.specs.declared.receipt.Receipt.{Receipt}
use Rattle.shared_book.specs.declared.receipt.EventKind.{EventKind}
use Rattle.shared_book.specs.declared.receipt.EventKind.TheVariants as kind

-- what contracts see of a seat: its number, and its receipts in order
pub record SeatView : Type 0 where
  pub number : ℕ
  pub receipts : List Receipt

-- the seat of this number with these receipts
abbrev pub seat_view : ℕ → List Receipt → SeatView
seat_view number receipts = record { number = number; receipts = receipts }

-- the seat with one more receipt
abbrev pub with_receipt : SeatView → Receipt → SeatView
with_receipt t receipt = seat_view t.number (t.receipts ++ receipt ∷ [])

-- what the receipt of an event notes of it: its kind; the number of the batch or flush that it
-- names, 0 if it names a sender; the batch of an Admit
abbrev pub noted_of : Event → EventKind × ℕ × Option Batch
noted_of (Admit b body) = (kind.Admit, b, Some body)
noted_of (Undo b) = (kind.Undo, b, None)
noted_of (Confirm b) = (kind.Confirm, b, None)
noted_of (Take f series) = (kind.Take, f, None)
noted_of (Settle f) = (kind.Settle, f, None)
noted_of (Drop f) = (kind.Drop, f, None)
noted_of (GiveBack f) = (kind.GiveBack, f, None)
noted_of (Quarantine s) = (kind.Quarantine, 0, None)
noted_of (Lift s) = (kind.Lift, 0, None)

-- the receipt of an event at this index of the journal
abbrev pub receipt_of : ℕ → Event → Receipt
receipt_of index event = record {
  index = index;
  kind = (noted_of event).0;
  number = (noted_of event).1;
  body = (noted_of event).2;
}

-- the receipts of those entries that name a seat, in order; the first entry is at this index
abbrev pub receipts_of : ℕ → ℕ → List Entry → List Receipt
receipts_of number index [] = []
receipts_of number index (e ∷ es) =
    if e.seat == number then receipt_of index e.event ∷ receipts_of number (index + 1) es
    else receipts_of number (index + 1) es

-- seats 0, 1, .. without receipts
abbrev pub fresh_seats : ℕ → List SeatView
fresh_seats zero = []
fresh_seats (suc n) = fresh_seats n ++ seat_view n [] ∷ []
