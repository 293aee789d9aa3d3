use Rattle.delta_book.proofs.Carrying.{AreCarried}
use Rattle.delta_book.proofs.opening.carry_all.Given as goal

abbrev pub invariant-loop-i : goal.invariant-loop-i
invariant-loop-i l = AreCarried l.i l.fn.cells l.cells
