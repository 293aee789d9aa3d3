use Rattle.std.proofs.Common.{◌≡◌, ◌+◌, ◌≤◌, length, vec_len}
use Rattle.std.specs.Prelude.{sum_by}
use Rattle.shared_book.proofs.audit.join_shares.Given as goal

abbrev pub invariant-loop-seat : goal.invariant-loop-seat
invariant-loop-seat g l =
    (l.whole.parts + vec_len l.seats ≡ length l.fn.seats.items) × (l.whole.parts ≤ g.L.Ledger.parts)
    × (l.whole.amount ≡ l.count) × (l.events.total ≡ l.fn.events.total)
    × (l.count + sum_by (λ s. length s.receipts) l.seats.items
    ≡ sum_by (λ s. length s.receipts) l.fn.seats.items)

abbrev pub decreases-loop-seat : goal.decreases-loop-seat
decreases-loop-seat g l = vec_len l.seats
