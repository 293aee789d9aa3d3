use Rattle.std.proofs.Common.{◌≡◌, ap, ◌∙◌, drop}
use Rattle.series_cell.specs.Cells.{home_hull}
use Rattle.series_cell.specs.inner.CellParts.{view_of}
use Rattle.series_cell.specs.Spans.{hull_of}
use Rattle.series_cell.proofs.Lent.{lent_cell, lent_view}
use Rattle.series_cell.proofs.Standing.{home_in_order}
use Rattle.series_cell.proofs.cell.Cell.stored_span.Goals as goal

pub returns : goal.returns
returns c =
    let i = c.as_ref-kept.result.now in
    let own = lent_cell c.as_ref-kept.ensures c.self.invariant in
    let home : c.spans_from.result.now ≡ drop i.cut i.spans.items =
    c.spans_from.ensures ∙ ap (drop i.cut) c.deref.ensures.value in
    c.hull.ensures (home_in_order (view_of i) own.0 own.1 c.spans_from.result.now home)
    ∙ (ap hull_of home ∙ ap home_hull (lent_view c.as_ref-kept.ensures c.self.view_is))
