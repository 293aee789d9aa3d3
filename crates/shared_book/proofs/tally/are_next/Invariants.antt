use Rattle.std.proofs.Common.{◌≡◌}
use Rattle.std.specs.List.{AllWithin}
use Rattle.shared_book.specs.Receipts.{receipt_of}
use Rattle.shared_book.specs.inner.Receipts.{IsNext}
use Rattle.shared_book.proofs.tally.are_next.Given as goal

abbrev pub invariant-loop-seat : goal.invariant-loop-seat
invariant-loop-seat g l = AllWithin
    (λ s. s.number ≡ l.number → IsNext s.receipts l.at (receipt_of l.index l.event)) l.seats 0
    l.seat-index
