use Rattle.std.proofs.Common.{◌≡◌, take}
use Rattle.delta_book.proofs.opening.copy_names.Given as goal

abbrev pub invariant-loop-name : goal.invariant-loop-name
invariant-loop-name l = l.all.items ≡ take l.name-index l.names
