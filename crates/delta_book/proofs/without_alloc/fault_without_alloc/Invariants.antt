use Rattle.std.proofs.Common.{◌≡◌, ◌++◌, List, map, take, drop}
use Rattle.metric_events.specs.Points.{admitted}
use Rattle.metric_events.specs.declared.accepted.Accepted.{Accepted}
use Rattle.delta_book.specs.Refusals.{point_fault}
use Rattle.delta_book.specs.Tables.{AreCells}
use Rattle.delta_book.proofs.without_alloc.fault_without_alloc.Given as goal

abbrev pub invariant-loop-i : goal.invariant-loop-i
invariant-loop-i l = (qs : List Accepted) → AreCells l.cells qs
    → point_fault (qs ++ map (admitted 0 l.sender) (take l.i l.batch)) l.sender l.i
    (drop l.i l.batch) ≡ point_fault qs l.sender 0 l.batch
