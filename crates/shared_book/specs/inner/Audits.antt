-- Receipts that are counted entry by entry.
use Rattle.std.specs.Prelude.{◌≡◌, ℕ, ◌<◌, Bool, true, false, List, ◌++◌}
use Rattle.std.specs.Prelude.{length, slice_index}
use Rattle.std.specs.List.{All, Any}
use Rattle.metric_events.specs.declared.entry.Entry.{Entry}
use Rattle.shared_book.specs.declared.receipt.Receipt.{Receipt}
use Rattle.shared_book.specs.declared.seat.TheConstants.{MAX_SEATS}
use Rattle.shared_book.specs.Receipts.{SeatView, receipts_of}

-- a seat's receipts begin with those of the entries that name it
abbrev pub IsBegun : List Entry → SeatView → Type 0
IsBegun entries t = (rest : List Receipt) × (t.receipts ≡ receipts_of t.number 0 entries ++ rest)

-- how many of these entries name each seat, and whether the receipts of each of these seats begin
-- with those of its entries
pub record IsTallied
    (entries : List Entry) (seats : List SeatView) (named : List ℕ) (same : Bool) : Type 0 where
  pub counted : (n : ℕ) → n < MAX_SEATS → slice_index named n ≡ length (receipts_of n 0 entries)
  pub begun : same ≡ true → All (λ t. t.number < MAX_SEATS → IsBegun entries t) seats
  pub differs : same ≡ false → Any (λ t. ¬ (IsBegun entries t)) seats
