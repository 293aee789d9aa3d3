use Rattle.std.proofs.Common.{◌≡◌, ◌+◌, ◌*◌, ◌^◌, ◌≤◌, drop}
use Rattle.delta_book.specs.Totals.{first_words}
use Rattle.delta_book.proofs.totals.acknowledged_words.Given as goal

abbrev pub invariant-loop-cell : goal.invariant-loop-cell
invariant-loop-cell l = record {
  few : l.total ≤ l.cell-index * 2 ^ 64;
  rest : l.total + first_words (drop l.cell-index l.cells) ≡ first_words l.cells;
}
