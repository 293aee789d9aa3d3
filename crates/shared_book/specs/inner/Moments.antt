-- What is under the lock, and what a seat keeps.
use Rattle.std.specs.Prelude.{◌≡◌, ℕ, ◌<◌, ◌≤◌, length}
use Rattle.std.specs.List.{All}
use Rattle.metric_events.specs.declared.limits.TheConstants.{MAX_ENTRIES}
use Rattle.metric_events.specs.declared.opening.Opening.{Opening}
use Rattle.delta_book.specs.Journal.{Journal}
use Rattle.shared_book.specs.declared.seat.TheConstants.{MAX_SEATS}
use Rattle.shared_book.specs.Moments.{IsOfSeat}

-- what is under the lock: a journal with the round's opening, each entry of one of the seats, and
-- as many entries as the ledger's total
pub record IsLocked (seats : ℕ) (opening : Opening) (j : Journal) (total : ℕ) : Type 0 where
  pub opened : j.opening ≡ opening
  pub of_seats : All (IsOfSeat seats) j.entries
  pub counted : length j.entries ≡ total

-- a seat: its number is below that of the seats, which are few; it has one part of the ledger,
-- which counts its receipts; there is room for all receipts of a round
pub record IsSeat (seats number parts amount receipts room : ℕ) : Type 0 where
  pub numbered : number < seats
  pub few : seats ≤ MAX_SEATS
  pub one_part : parts ≡ 1
  pub counted : amount ≡ receipts
  pub roomy : MAX_ENTRIES ≤ room
