use Rattle.delta_book.proofs.Entered.{home_here, home_none}
use Rattle.delta_book.proofs.Searching.{cells_ascend}
use Rattle.delta_book.proofs.cells.is_home_in.Goals as goal

pub returns-in-Some : goal.returns-in-Some
returns-in-Some c = λ qs h m t. home_here c.args.cells.now qs c.args.number c.in-Some.i
    c.index-cells-i.result c.args.series.now c.can_remove.result h c.in-Some.ensures.0
    c.index-cells-i.is c.in-Some.ensures.1 c.can_remove.ensures.whole m t

pub returns-in-None : goal.returns-in-None
returns-in-None c = λ qs h m t. home_none c.args.cells.now qs c.args.number c.args.series.now h
    (c.in-None.ensures (cells_ascend c.args.cells.now qs h))
