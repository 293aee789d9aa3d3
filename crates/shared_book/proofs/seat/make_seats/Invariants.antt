use Rattle.std.proofs.Common.{◌≡◌, ◌+◌}
use Rattle.shared_book.specs.Receipts.{fresh_seats}
use Rattle.shared_book.proofs.seat.make_seats.Given as goal

abbrev pub invariant-loop-number : goal.invariant-loop-number
invariant-loop-number g l = (l.whole.parts + l.number ≡ g.L.Ledger.parts) × (l.whole.amount ≡ 0)
    × (l.list.items ≡ fresh_seats l.number)
