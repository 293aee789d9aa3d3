use Rattle.std.proofs.Common.{◌∙◌, ap, sym, not}
use Rattle.metric_events.specs.Senders.{same_sender}
use Rattle.delta_book.proofs.Asked.{cell_of, writer_none}
use Rattle.delta_book.proofs.Searching.{cells_ascend}
use Rattle.delta_book.proofs.without_alloc.is_taken.Goals as goal

pub returns-in-Some : goal.returns-in-Some
returns-in-Some c = λ qs h.
    ap not (c.is_same.ensures ∙ ap (λ o. same_sender o c.args.sender.now) c.owner.ensures)
    ∙ sym ((cell_of c.args.cells.now qs c.in-Some.i c.index-cells-i.result c.args.series.now h
    c.in-Some.ensures.0 c.index-cells-i.is c.in-Some.ensures.1).writer c.args.sender.now)

pub returns-in-None : goal.returns-in-None
returns-in-None c = λ qs h. sym (writer_none c.args.cells.now qs c.args.series.now c.args.sender.now
    h (c.in-None.ensures (cells_ascend c.args.cells.now qs h)))
