use Rattle.std.proofs.Common.{sym, ap, ◌∙◌, subst, arith, map, refl}
use Rattle.metric_events.specs.Rows.{zeros}
use Rattle.series_cell.specs.Cells.{CellView, Stands, lifted}
use Rattle.series_cell.specs.inner.CellParts.{view_of}
use Rattle.series_cell.proofs.Lent.{lent_cell, lent_words, lent_view, lent_lean}
use Rattle.series_cell.proofs.Sizes.{sized, within}
use Rattle.series_cell.proofs.Standing.{stands_lift}
use Rattle.series_cell.proofs.Words.{rows_fit}
use Rattle.series_cell.proofs.cell.Cell.lift_off.Goals as goal

pub lift_off-requires : goal.lift_off-requires
lift_off-requires c =
    let i = c.as_mut-kept.result.now in
    let own = lent_cell c.as_mut-kept.ensures.value c.self.invariant in
    let s = sized _ own.0 own.1 in
    rows_fit _ _ _ (λ k. let w = within (view_of i) own.0 k own.1 in omega (arith, w.stored))
    (s.in_flight ∙ sym s.accepted) (lent_words c.as_mut-kept.ensures.value c.self.invariant)

pub invariant_of-self : goal.invariant_of-self
invariant_of-self c =
    let i = c.as_mut-kept.result.now in
    let own = lent_cell c.as_mut-kept.ensures.value c.self.invariant in
    let is = lent_view c.as_mut-kept.ensures.value c.self.view_is in
    rw c.lift_off.ensures (record {
      cell = (
        map (lifted c.args.flush) own.0,
        stands_lift _ c.args.flush own.0 _ _ _ own.1
            (ap (λ (w : CellView). w.cut) is ∙ c.requires) refl
            (ap zeros (sized _ own.0 own.1).stored) (c.len-kept.ensures ∙ i.spans.ok.0),
      );
      words = lent_words c.as_mut-kept.ensures.value c.self.invariant;
      lean = lent_lean c.as_mut-kept.ensures.value c.self.invariant;
    })

pub returns-clause-stands : goal.returns-clause-stands
returns-clause-stands c = λ qs g.
    let i = c.as_mut-kept.result.now in
    let is = lent_view c.as_mut-kept.ensures.value c.self.view_is in
    let v : CellView = view_of i in
    let h : Stands v qs = subst (λ (w : CellView). Stands w qs) (sym is) g in
    rw c.lift_off.ensures
    (stands_lift v c.args.flush qs _ _ _ h (ap (λ (w : CellView). w.cut) is ∙ c.requires) refl
    (ap zeros (sized v qs h).stored) (c.len-kept.ensures ∙ i.spans.ok.0))
