use Rattle.std.proofs.Common.{◌∙◌, sym}
use Rattle.book_desk.proofs.Pending.{nothing_pending, pending_at}
use Rattle.book_desk.proofs.cross.pending_span.Goals as goal

pub returns-in-None : goal.returns-in-None
returns-in-None c = sym (nothing_pending c.cells-cells.result.now c.args.book.now c.args.series.now
    c.cells-cells.ensures c.in-None.ensures)

pub returns-in-Some : goal.returns-in-Some
returns-in-Some c = c.stored_span.ensures
    ∙ pending_at c.cells-cells.result.now c.args.book.now c.in-Some.i c.index-cells-i.result
    c.args.series.now c.cells-cells.ensures c.in-Some.ensures.0 c.index-cells-i.is
    c.in-Some.ensures.1
