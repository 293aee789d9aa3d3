use Rattle.std.proofs.Common.{◌≡◌, ℕ, ◌-◌, ◌++◌, List, length, map, take}
use Rattle.metric_events.specs.Points.{admitted}
use Rattle.metric_events.specs.declared.accepted.Accepted.{Accepted}
use Rattle.delta_book.specs.Tables.{id_of}
use Rattle.delta_book.specs.inner.Parts.{parts_of}
use Rattle.delta_book.specs.inner.Tables.{IsTable}
use Rattle.delta_book.proofs.cells.remove_points.Given as goal

abbrev pub invariant-loop-k : goal.invariant-loop-k
invariant-loop-k l = record {
  removed : (s : List ℕ) (before after : List Accepted)
      → IsTable l.fn.cells (before ++ (map (admitted l.number s) (parts_of l.fill l.batch)
      ++ after)) → IsTable l.cells (before
      ++ (map (admitted l.number s) (parts_of l.fill (take (length l.batch - l.k) l.batch))
      ++ after));
  series : map id_of l.cells ≡ map id_of l.fn.cells;
}
