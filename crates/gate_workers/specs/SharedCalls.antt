-- How the calls of a keeper change the receipts of its seat, where the book is shared.
use Rattle.std.specs.Prelude.{◌≡◌, ℕ, Bool, false, ⊤, Err}
use Rattle.metric_events.specs.declared.opening.Opening.{Opening}
use Rattle.shared_book.specs.Receipts.{SeatView}
use Rattle.shared_book.specs.Moments.{IsSharedCall}
use Rattle.gate_workers.specs.declared.order.OrderFault.TheVariants.{Gone}
use Rattle.gate_workers.specs.Calls.{Call, on_book, order}

-- what contracts see of a keeper of a shared book: its seat's receipts, and whether it can order
pub record Worker : Type 0 where
  pub seat : SeatView
  pub orders : Bool

-- how a call with its answer changes the receipts of one of so many seats, in the round with this
-- opening: as the shared book's call does; an order changes none
abbrev pub SeatGives : ℕ → Opening → SeatView → Call → SeatView → Type 0
SeatGives seats opening t (on_book c) t' = IsSharedCall seats opening t t' c
SeatGives seats opening t (order r) t' = t' ≡ t

-- where the keeper can't order, the answer is Gone
abbrev pub MayOrder : Call → Bool → Type 0
MayOrder (order r) false = r ≡ Err Gone
MayOrder c orders = ⊤

-- how a call with its answer changes the keeper
pub record WorkerGives (seats : ℕ) (opening : Opening) (k : Worker) (c : Call)
    (k' : Worker) : Type 0 where
  pub seat : SeatGives seats opening k.seat c k'.seat
  pub orders : k'.orders ≡ k.orders
  pub ordered : MayOrder c k.orders
