use Rattle.delta_book.proofs.PutIn.{empty_end, empty_long}
use Rattle.delta_book.proofs.put.new_cell.Goals as goal

pub put_part-requires-clause-order : goal.put_part-requires-clause-order
put_part-requires-clause-order c =
    empty_end c.in-Ok.cell c.args.point.now.span.start c.in-Ok.ensures.none

pub put_part-requires-clause-long : goal.put_part-requires-clause-long
put_part-requires-clause-long c = empty_long c.in-Ok.cell c.in-Ok.ensures.none
