use Rattle.std.proofs.Common.{take}
use Rattle.shared_book.specs.inner.Audits.{IsTallied}
use Rattle.shared_book.proofs.tally.Tally.of.Given as goal

abbrev pub invariant-loop-index : goal.invariant-loop-index
invariant-loop-index g l = IsTallied (take l.index l.journal) l.seats l.tally.named l.tally.same
