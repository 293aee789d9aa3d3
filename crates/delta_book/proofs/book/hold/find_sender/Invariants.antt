use Rattle.std.proofs.Common.{◌≡◌, drop}
use Rattle.metric_events.specs.Legal.{is_held}
use Rattle.delta_book.proofs.book.hold.find_sender.Given as goal

abbrev pub invariant-loop-i : goal.invariant-loop-i
invariant-loop-i l = is_held l.sender (drop l.i l.held) ≡ is_held l.sender l.held
