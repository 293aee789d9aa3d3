use Rattle.delta_book.proofs.NewCell.{gap_absent}
use Rattle.delta_book.proofs.cells.find_cell.Goals as goal

pub returns-in-Err : goal.returns-in-Err
returns-in-Err c =
    λ u. gap_absent c.args.cells.now c.in-Err.field-0 c.args.series.now u (c.in-Err.ensures.1 u)
