use Rattle.std.proofs.Common.{◌≡◌, ◌≤◌, map, take, length}
use Rattle.metric_events.specs.Choice.{present}
use Rattle.delta_book.specs.inner.AtHome.{home_point}
use Rattle.delta_book.specs.inner.Ready.{ready_ids}
use Rattle.delta_book.specs.inner.Tables.{ForPoints}
use Rattle.delta_book.proofs.flush.prepare.Given as goal

abbrev pub invariant-loop-i : goal.invariant-loop-i
invariant-loop-i l = record {
  found : l.found.items ≡ ready_ids l.held (take l.i l.cells);
  few : length l.found.items ≤ l.max;
  points : ForPoints l.cells (λ qs. l.points ≡ present (map (home_point qs) l.found.items));
}
