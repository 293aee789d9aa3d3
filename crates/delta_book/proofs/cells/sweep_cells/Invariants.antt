use Rattle.std.proofs.Common.{◌-◌, List, length, take}
use Rattle.metric_events.specs.declared.accepted.Accepted.{Accepted}
use Rattle.delta_book.specs.inner.Removals.{AreCellsFor}
use Rattle.delta_book.proofs.cells.sweep_cells.Given as goal

abbrev pub invariant-loop-k : goal.invariant-loop-k
invariant-loop-k l = (qs : List Accepted) → AreCellsFor l.fn.cells.items qs l.batch
    → AreCellsFor l.cells.items qs (take (length l.batch - l.k) l.batch)
