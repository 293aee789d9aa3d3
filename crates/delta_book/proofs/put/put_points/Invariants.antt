use Rattle.std.proofs.Common.{◌≡◌, false, ◌++◌, List, map, take}
use Rattle.metric_events.specs.Points.{admitted}
use Rattle.metric_events.specs.Legal.{is_too_large}
use Rattle.metric_events.specs.declared.accepted.Accepted.{Accepted}
use Rattle.delta_book.specs.Refusals.{point_fault}
use Rattle.delta_book.specs.Tables.{AreCells}
use Rattle.delta_book.specs.declared.cells.Fill.TheVariants.{Point}
use Rattle.delta_book.specs.inner.Parts.{parts_of}
use Rattle.delta_book.proofs.PointFaults.{fault_past}
use Rattle.delta_book.proofs.put.put_points.Given as goal

abbrev pub invariant-loop-i : goal.invariant-loop-i
invariant-loop-i l = record {
  put : (qs : List Accepted) → AreCells l.fn.cells.items qs
      → AreCells l.cells.items
      (qs ++ map (admitted l.number l.sender) (parts_of l.fill (take l.i l.points)));
  fault : (qs : List Accepted) → AreCells l.fn.cells.items qs
      → fault_past l.first qs l.sender l.points l.i ≡ point_fault qs l.sender l.first l.points;
  within : l.fill ≡ Point → (qs : List Accepted) → AreCells l.fn.cells.items qs
      → is_too_large (qs ++ map (admitted l.number l.sender) (take l.i l.points))
      (take l.i l.points) ≡ false;
}
