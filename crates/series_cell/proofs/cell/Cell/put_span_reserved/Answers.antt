use Rattle.std.proofs.Common.{◌≤◌, sym, ap, ◌∙◌, subst, refl, [], ◌∷◌, ◌++◌}
use Rattle.metric_events.specs.Points.{admitted}
use Rattle.metric_events.specs.Interval.{Interval, IsInterval}
use Rattle.series_cell.specs.Cells.{CellView, Stands, bare, end_of}
use Rattle.series_cell.specs.inner.CellParts.{view_of}
use Rattle.series_cell.proofs.Lent.{lent_cell, lent_words, lent_view, some_put}
use Rattle.series_cell.proofs.Standing.{stands_put_span}
use Rattle.series_cell.proofs.cell.Cell.put_span_reserved.Goals as goal

pub invariant_of-self : goal.invariant_of-self
invariant_of-self c =
    let i = c.as_mut-kept.result.now in
    let own = lent_cell c.as_mut-kept.ensures.value c.self.invariant in
    let is = lent_view c.as_mut-kept.ensures.value c.self.view_is in
    record {
      cell = (
        own.0 ++ admitted c.args.batch i.owner (bare c.args.point.now) ∷ [],
        stands_put_span _ i.owner c.args.point.now c.args.batch own.0 _ _ refl own.1
            (subst IsInterval c.span-span.ensures c.end-end.ensures.valid)
            (c.requires.series ∙ sym (ap (λ (w : CellView). w.id) is))
            (subst (λ (w : CellView). end_of w ≤ c.args.point.now.span.start) (sym is)
            c.requires.order)
            (c.push_reserved.ensures.items
            ∙ ap (λ (t : Interval). i.spans.items ++ record { span = t; batch = c.args.batch }
            ∷ []) c.span-span.ensures),
      );
      words = lent_words c.as_mut-kept.ensures.value c.self.invariant;
      lean = λ n. absurd (some_put _ i.spans.items _ c.push_reserved.ensures.items n);
    }

pub returns-clause-stands : goal.returns-clause-stands
returns-clause-stands c = λ qs g.
    let i = c.as_mut-kept.result.now in
    let is = lent_view c.as_mut-kept.ensures.value c.self.view_is in
    let v : CellView = view_of i in
    let h : Stands v qs = subst (λ (w : CellView). Stands w qs) (sym is) g in
    stands_put_span v c.args.self.now.owner c.args.point.now c.args.batch qs
    _ _ (sym (ap (λ (w : CellView). w.owner) is)) h
    (subst IsInterval c.span-span.ensures c.end-end.ensures.valid)
    (c.requires.series ∙ sym (ap (λ (w : CellView). w.id) is))
    (subst (λ (w : CellView). end_of w ≤ c.args.point.now.span.start) (sym is) c.requires.order)
    (c.push_reserved.ensures.items ∙ ap
    (λ (t : Interval). i.spans.items ++ record { span = t; batch = c.args.batch } ∷ [])
    c.span-span.ensures)
