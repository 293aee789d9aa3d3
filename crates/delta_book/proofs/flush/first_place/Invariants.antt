use Rattle.std.proofs.Common.{◌≡◌, take, false}
use Rattle.std.specs.List.{list_any}
use Rattle.delta_book.specs.inner.Ready.{is_ready}
use Rattle.delta_book.proofs.flush.first_place.Given as goal

abbrev pub invariant-loop-i : goal.invariant-loop-i
invariant-loop-i l = list_any (is_ready l.held) (take l.i l.cells) ≡ false
