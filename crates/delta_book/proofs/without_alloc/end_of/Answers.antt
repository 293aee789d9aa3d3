use Rattle.std.proofs.Common.{◌∙◌, sym}
use Rattle.delta_book.proofs.Asked.{cell_of, end_none}
use Rattle.delta_book.proofs.Searching.{cells_ascend}
use Rattle.delta_book.proofs.without_alloc.end_of.Goals as goal

pub returns-in-Some : goal.returns-in-Some
returns-in-Some c = λ qs h. c.frontier.ensures
    ∙ (cell_of c.args.cells.now qs c.in-Some.i c.index-cells-i.result c.args.series.now h
    c.in-Some.ensures.0 c.index-cells-i.is c.in-Some.ensures.1).end

pub returns-in-None : goal.returns-in-None
returns-in-None c = λ qs h. sym (end_none c.args.cells.now qs c.args.series.now h
    (c.in-None.ensures (cells_ascend c.args.cells.now qs h)))
