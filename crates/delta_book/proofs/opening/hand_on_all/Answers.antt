use Rattle.std.proofs.Common.{◌∙◌, ◌++◌, ◌∷◌, [], ap, sym, map, take}
use Rattle.std.proofs.lemmas.List.{map_more, take_all}
use Rattle.series_id.specs.Identity.{Identity}
use Rattle.metric_events.specs.declared.opened_series.OpenedSeries.{OpenedSeries}
use Rattle.metric_events.specs.Points.{points}
use Rattle.metric_events.specs.Standing.{series_standing}
use Rattle.metric_events.specs.Close.{handed_on}
use Rattle.series_cell.specs.Cells.{CellView}
use Rattle.delta_book.specs.Tables.{id_of}
use Rattle.delta_book.proofs.Tables.{stands_at}
use Rattle.delta_book.proofs.CellTotals.{point_at}
use Rattle.std.proofs.lemmas.Simd.{map-map}
use Rattle.delta_book.proofs.opening.hand_on_all.Goals as goal

pub hand_on-requires-clause-booked : goal.hand_on-requires-clause-booked
hand_on-requires-clause-booked c =
    let r = c.requires.booked in (
      r.0,
      (
        r.1.0,
        stands_at c.args.cells.now (points r.0) c.loop-cell.cell-index c.cell-item.result
            c.loop-cell-test.true c.cell-item.is r.1.1.stand,
      ),
    )

pub loop-cell-preserved : goal.loop-cell-preserved
loop-cell-preserved c held qs h =
    let handed : CellView → OpenedSeries =
    λ d. handed_on c.args.before.now.series (series_standing qs held (id_of d)) in
    let cs = c.args.cells.now in
    let i = c.loop-cell.cell-index in
    c.in_ok-push.ensures.items
    ∙ (ap (λ ss. ss ++ c.in_ok-hand_on.field-0 ∷ []) (c.loop-cell.invariant held qs h)
    ∙ (ap (λ s. map handed (take i cs) ++ s ∷ [])
    (c.in_ok-hand_on.ensures held qs
    (stands_at cs qs i c.cell-item.result c.loop-cell-test.true c.cell-item.is h.stand)
    (point_at cs qs i c.cell-item.result c.loop-cell-test.true c.cell-item.is h))
    ∙ (ap (λ (d : CellView). map handed (take i cs) ++ handed d ∷ []) c.cell-item.is
    ∙ sym (map_more handed cs i c.cell-item.result c.loop-cell-test.true))))

pub returns : goal.returns
returns c held qs h =
    let handed : Identity → OpenedSeries =
    λ x. handed_on c.args.before.now.series (series_standing qs held x) in
    let cs = c.args.cells.now in
    c.loop-cell.invariant held qs h ∙ (ap (map (λ d. handed (id_of d)))
    (take_all c.loop-cell.cell-index cs c.loop-cell-test.false)
    ∙ (sym (map-map handed id_of cs) ∙ ap (map handed) h.ids))
