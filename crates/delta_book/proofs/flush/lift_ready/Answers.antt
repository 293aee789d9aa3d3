use Rattle.delta_book.proofs.Lifting.{lifted_over}
use Rattle.delta_book.proofs.flush.lift_ready.Goals as goal

pub returns-then-is_ready-clause-over : goal.returns-then-is_ready-clause-over
returns-then-is_ready-clause-over c =
    λ qs h. lifted_over c.args.held.now c.lift_off.new.self c.args.flush qs
    (c.lift_off.ensures.stands qs h)
