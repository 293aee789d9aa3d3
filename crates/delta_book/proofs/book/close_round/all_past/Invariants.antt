use Rattle.std.proofs.Common.{◌≡◌, take, map}
use Rattle.delta_book.specs.PastRows.{past_row, past_of}
use Rattle.delta_book.proofs.book.close_round.all_past.Given as goal

abbrev pub invariant-loop-s : goal.invariant-loop-s
invariant-loop-s l = map past_row l.all.items ≡ map past_of (take l.s-index l.series)
