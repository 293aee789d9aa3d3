use Rattle.std.proofs.Common.{◌∙◌, ap, sym, length}
use Rattle.series_id.specs.Identity.{Identity, row_length}
use Rattle.metric_events.specs.Rows.{add_rows}
use Rattle.metric_events.specs.Points.{points}
use Rattle.metric_events.specs.Series.{of_series}
use Rattle.metric_events.specs.Close.{past}
use Rattle.metric_events.proofs.Closing.{home_row}
use Rattle.series_cell.proofs.Reading.{tells}
use Rattle.series_cell.proofs.Sizes.{sized}
use Rattle.delta_book.proofs.Handing.{same_entry}
use Rattle.delta_book.proofs.CellTotals.{owner_is, frontier_of}
use Rattle.delta_book.proofs.opening.hand_on.Goals as goal

pub with_past-requires-clause-acknowledged : goal.with_past-requires-clause-acknowledged
with_past-requires-clause-acknowledged c =
    ap length c.acknowledged.ensures ∙ ((sized c.args.cell.now
    (of_series c.args.cell.now.id (points c.requires.booked.0))
    c.requires.booked.1.1).acknowledged
    ∙ ap (λ (x : Identity). row_length x.kind) (sym c.id.ensures))

pub with_past-requires-clause-dropped : goal.with_past-requires-clause-dropped
with_past-requires-clause-dropped c =
    ap length c.dropped.ensures ∙ ((sized c.args.cell.now
    (of_series c.args.cell.now.id (points c.requires.booked.0)) c.requires.booked.1.1).dropped
    ∙ ap (λ (x : Identity). row_length x.kind) (sym c.id.ensures))

pub returns : goal.returns
returns c held qs h m =
    let d = c.args.cell.now in
    let t = tells d (of_series d.id qs) h in
    same_entry _ _ _ _ _ _ _ _ _ _ _ _ _ _
    (c.in_ok-share.ensures ∙ c.shared_id.ensures)
    (c.in_ok-owner.ensures ∙ (c.owner.ensures ∙ sym (owner_is d.owner d.id qs h.own m)))
    (c.frontier.ensures ∙ (t.frontier ∙ frontier_of d.id qs))
    (c.in_ok-home.ensures ∙ (c.stored.ensures ∙ (t.stored ∙ sym (home_row d.id qs held))))
    (c.stored_span.ensures ∙ t.home_span)
    (c.in_ok-acknowledged.ensures.acknowledged
    ∙ (ap (λ x. add_rows c.acknowledged.result.now
    (past (λ o. o.acknowledged) x c.args.before.now.series)) c.id.ensures
    ∙ ap (λ ws. add_rows ws (past (λ o. o.acknowledged) d.id c.args.before.now.series))
    (c.acknowledged.ensures ∙ t.acknowledged)))
    (c.in_ok-acknowledged.ensures.dropped
    ∙ (ap (λ x. add_rows c.dropped.result.now
    (past (λ o. o.dropped) x c.args.before.now.series)) c.id.ensures
    ∙ ap (λ ws. add_rows ws (past (λ o. o.dropped) d.id c.args.before.now.series))
    (c.dropped.ensures ∙ t.dropped)))
