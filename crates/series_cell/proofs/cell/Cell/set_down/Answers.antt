use Rattle.std.proofs.Common.{sym, ap, ◌∙◌, subst, map, refl}
use Rattle.metric_events.specs.Points.{landed}
use Rattle.metric_events.specs.Rows.{zeros}
use Rattle.metric_events.specs.declared.place.Place.TheVariants.{Home}
use Rattle.series_cell.specs.Cells.{CellView, Stands}
use Rattle.series_cell.specs.inner.CellParts.{view_of}
use Rattle.series_cell.proofs.Lent.{lent_cell, lent_words, lent_view, lent_lean}
use Rattle.series_cell.proofs.Sizes.{sized, within}
use Rattle.series_cell.proofs.Standing.{stands_down}
use Rattle.series_cell.proofs.Words.{rows_fit}
use Rattle.series_cell.proofs.cell.Cell.set_down.Goals as goal

pub set_down-requires : goal.set_down-requires
set_down-requires c =
    let own = lent_cell c.as_mut-kept.ensures.value c.self.invariant in
    let s = sized _ own.0 own.1 in
    rows_fit _ _ _ (λ k. (within _ own.0 k own.1).stored) (s.stored ∙ sym s.accepted)
    (lent_words c.as_mut-kept.ensures.value c.self.invariant)

pub invariant_of-self : goal.invariant_of-self
invariant_of-self c =
    let i = c.as_mut-kept.result.now in
    let own = lent_cell c.as_mut-kept.ensures.value c.self.invariant in
    rw c.set_down.ensures (record {
      cell = (
        map (landed i.flush Home) own.0,
        stands_down _ i.flush own.0 _ _ refl own.1 refl
            (ap zeros (sized _ own.0 own.1).in_flight),
      );
      words = lent_words c.as_mut-kept.ensures.value c.self.invariant;
      lean = lent_lean c.as_mut-kept.ensures.value c.self.invariant;
    })

pub returns-clause-stands : goal.returns-clause-stands
returns-clause-stands c = λ qs g.
    let i = c.as_mut-kept.result.now in
    let is = lent_view c.as_mut-kept.ensures.value c.self.view_is in
    let v : CellView = view_of i in
    let h : Stands v qs = subst (λ (w : CellView). Stands w qs) (sym is) g in
    rw c.set_down.ensures
    (stands_down v c.args.self.now.flush qs _ _ (sym (ap (λ (w : CellView). w.flush) is)) h refl
    (ap zeros (sized v qs h).in_flight))
