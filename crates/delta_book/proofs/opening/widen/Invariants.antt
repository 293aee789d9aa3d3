use Rattle.std.proofs.Common.{◌≡◌, take}
use Rattle.delta_book.proofs.opening.widen.Given as goal

abbrev pub invariant-loop-word : goal.invariant-loop-word
invariant-loop-word l = l.words.items ≡ take l.word-index l.row
