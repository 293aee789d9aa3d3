use Rattle.std.proofs.Common.{◌∙◌, ap, sym}
use Rattle.std.specs.Prelude.{slice_index}
use Rattle.series_id.specs.Identity.{row_length}
use Rattle.metric_events.proofs.Sums.{zeros_at}
use Rattle.delta_book.proofs.Asked.{cell_of, sum_none}
use Rattle.delta_book.proofs.Searching.{cells_ascend}
use Rattle.delta_book.proofs.limits.accepted_word.Goals as goal

pub returns-in-None-clause-value : goal.returns-in-None-clause-value
returns-in-None-clause-value c = λ qs h. sym
    (ap (λ r. slice_index r c.args.k)
    (sum_none c.args.cells.now qs c.args.series.now h
    (c.in-None.ensures (cells_ascend c.args.cells.now qs h)))
    ∙ zeros_at (row_length c.args.series.now.kind) c.args.k)

pub returns-in-Some-clause-value : goal.returns-in-Some-clause-value
returns-in-Some-clause-value c = λ qs h.
    c.from.ensures ∙ (c.word_at.ensures ∙ ap (λ r. slice_index r c.args.k)
    (c.accepted.ensures ∙ (cell_of c.args.cells.now qs c.in-Some.i c.index-cells-i.result
    c.args.series.now h c.in-Some.ensures.0 c.index-cells-i.is c.in-Some.ensures.1).sum))
