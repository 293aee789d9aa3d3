use Rattle.std.proofs.Common.{◌≡◌, ap, ◌∙◌, take}
use Rattle.series_cell.specs.Cells.{flight_hull}
use Rattle.series_cell.specs.inner.CellParts.{view_of}
use Rattle.series_cell.specs.Spans.{hull_of}
use Rattle.series_cell.proofs.Lent.{lent_cell, lent_view}
use Rattle.series_cell.proofs.Standing.{away_in_order}
use Rattle.series_cell.proofs.cell.Cell.flight_span.Goals as goal

pub returns : goal.returns
returns c =
    let i = c.as_ref-kept.result.now in
    let own = lent_cell c.as_ref-kept.ensures c.self.invariant in
    let away : c.spans_to.result.now ≡ take i.cut i.spans.items =
    c.spans_to.ensures ∙ ap (take i.cut) c.deref.ensures.value in
    c.hull.ensures (away_in_order (view_of i) own.0 own.1 c.spans_to.result.now away)
    ∙ (ap hull_of away ∙ ap flight_hull (lent_view c.as_ref-kept.ensures c.self.view_is))
