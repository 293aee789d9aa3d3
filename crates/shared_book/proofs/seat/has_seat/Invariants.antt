use Rattle.std.proofs.Common.{◌≡◌, drop}
use Rattle.shared_book.specs.Audits.{is_seated}
use Rattle.shared_book.proofs.seat.has_seat.Given as goal

abbrev pub invariant-loop-seat : goal.invariant-loop-seat
invariant-loop-seat g l =
    is_seated l.number (drop l.seat-index l.seats) ≡ is_seated l.number l.seats
