use Rattle.std.proofs.Common.{◌≡◌, ◌≤◌, ◌+◌, drop}
use Rattle.book_desk.specs.Takes as takes
use Rattle.book_desk.proofs.flushes.count.Given as goal

abbrev pub invariant-loop-flush : goal.invariant-loop-flush
invariant-loop-flush l = record {
  few : l.found
      ≤ l.flush-index;
  count : l.found + takes.count (drop l.flush-index l.flushes)
      ≡ takes.count l.flushes;
}
