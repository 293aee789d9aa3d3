use Rattle.std.proofs.Common.{◌≡◌, ◌+◌, map, take, drop, length, false}
use Rattle.series_cell.specs.Cells.{lifted}
use Rattle.std.specs.List.{list_any}
use Rattle.delta_book.specs.inner.Ready.{is_ready, ready_ids}
use Rattle.delta_book.specs.Tables.{AreCells}
use Rattle.delta_book.specs.inner.Tables.{ForPoints, on_series}
use Rattle.delta_book.proofs.flush.lift_first.Given as goal

abbrev pub invariant-loop-i : goal.invariant-loop-i
invariant-loop-i l = record {
  cells : ForPoints l.fn.cells (λ qs. AreCells l.cells
      (map (on_series (lifted l.flush) (ready_ids l.held (take l.i l.fn.cells))) qs));
  over : ForPoints l.fn.cells (λ _. list_any (is_ready l.held) (take l.i l.cells) ≡ false);
  rest : drop l.i l.cells ≡ drop l.i l.fn.cells;
  count : l.left + length (ready_ids l.held (take l.i l.fn.cells)) ≡ l.max;
}
