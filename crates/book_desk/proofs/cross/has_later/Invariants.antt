use Rattle.std.proofs.Common.{◌≡◌, take, false}
use Rattle.std.specs.List.{list_any}
use Rattle.book_desk.specs.Crossings.{goes_beyond}
use Rattle.book_desk.proofs.cross.has_later.Given as goal

abbrev pub invariant-loop-point : goal.invariant-loop-point
invariant-loop-point l =
    list_any (goes_beyond l.stretch l.book) (take l.point-index l.points) ≡ false
