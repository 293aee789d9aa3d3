use Rattle.std.proofs.Common.{◌≡◌, ◌<◌, true, false, length}
use Rattle.std.specs.List.{AllWithin, Any}
use Rattle.shared_book.specs.declared.seat.TheConstants.{MAX_SEATS}
use Rattle.shared_book.specs.Receipts.{receipts_of}
use Rattle.shared_book.specs.Audits.{IsMatched, IsShort}
use Rattle.shared_book.proofs.audit.check.Given as goal

abbrev pub invariant-loop-seat : goal.invariant-loop-seat
invariant-loop-seat g l =
    record {
      long : AllWithin (λ s. ¬ (IsShort l.book.entries s)) l.seats 0 l.seat-index;
      alike : l.same ≡ true → (l.tally.same ≡ true)
          × AllWithin (λ s. (s.number < MAX_SEATS)
          × (length s.receipts ≡ length (receipts_of s.number 0 l.book.entries))) l.seats 0
          l.seat-index;
      stray : l.same ≡ false → Any (λ s. ¬ (IsMatched l.book.entries s)) l.seats;
    }
