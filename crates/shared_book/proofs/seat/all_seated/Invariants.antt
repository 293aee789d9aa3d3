use Rattle.shared_book.specs.Audits.{AllSeated}
use Rattle.shared_book.proofs.seat.all_seated.Given as goal

abbrev pub invariant-loop-number : goal.invariant-loop-number
invariant-loop-number g l = AllSeated l.number l.seats
