use Rattle.std.proofs.Common.{◌≡◌, fold, take}
use Rattle.book_desk.specs.Homes as homes
use Rattle.book_desk.proofs.home.add_set.Given as goal

abbrev pub invariant-loop-pair : goal.invariant-loop-pair
invariant-loop-pair l = l.hasher ≡ fold homes.with_attribute l.fn.hasher (take l.pair-index l.set)
