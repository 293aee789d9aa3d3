use Rattle.std.proofs.Common.{◌≡◌, ap, ◌∙◌, drop}
use Rattle.std.specs.List.{list_any}
use Rattle.series_cell.specs.Spans.{is_span_of}
use Rattle.series_cell.specs.Cells.{CellView}
use Rattle.series_cell.proofs.Lent.{lent_view}
use Rattle.series_cell.proofs.Standing.{can_remove_is, home_of_is}
use Rattle.series_cell.proofs.cell.Cell.can_remove.Goals as goal

spans_are : (c : goal.After-has_batch)
    → c.has_batch.result
    ≡ list_any (is_span_of c.args.batch) (drop c.args.self.now.cut c.args.self.now.spans)
spans_are c =
    c.has_batch.ensures
    ∙ (ap (list_any (is_span_of c.args.batch))
    (c.spans_from.ensures ∙ ap (drop c.as_ref-kept.result.now.cut) c.deref.ensures.value)
    ∙ ap (λ (w : CellView). list_any (is_span_of c.args.batch) (drop w.cut w.spans))
    (lent_view c.as_ref-kept.ensures c.self.view_is))

pub returns-clause-exact : goal.returns-clause-exact
returns-clause-exact c =
    λ qs h. home_of_is c.args.self.now qs c.args.batch c.has_batch.result h (spans_are c)

pub returns-clause-whole : goal.returns-clause-whole
returns-clause-whole c = λ qs h some one. can_remove_is c.args.self.now qs c.args.batch
    c.has_batch.result h some one (spans_are c)
