use Rattle.std.proofs.Common.{◌≡◌, drop}
use Rattle.book_desk.specs.Takes as takes
use Rattle.book_desk.proofs.flushes.find.Given as goal

abbrev pub invariant-loop-flush : goal.invariant-loop-flush
invariant-loop-flush l = takes.nth (drop l.flush-index l.flushes) l.left ≡ takes.nth l.flushes l.i
