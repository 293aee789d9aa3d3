use Rattle.std.proofs.Common.{◌≡◌, take}
use Rattle.metric_events.specs.Rows.{add_rows}
use Rattle.delta_book.proofs.opening.add_past.Given as goal

abbrev pub invariant-loop-k : goal.invariant-loop-k
invariant-loop-k l = l.words.items ≡ add_rows (take l.k l.row) (take l.k l.past)
