use Rattle.std.proofs.Common.{◌≡◌, ◌-◌, ◌^◌, ◌≤◌, sym, ap, ◌∙◌, subst, arith, length, refl, List, ℕ}
use Rattle.std.proofs.Common.{[], ◌∷◌, ◌++◌}
use Rattle.bucket_lanes.specs.ByPlace.{Fits}
use Rattle.series_id.specs.Identity.{Identity, row_length}
use Rattle.metric_events.specs.Points.{admitted}
use Rattle.metric_events.specs.Rows.{add_rows}
use Rattle.metric_events.specs.Interval.{Interval}
use Rattle.series_cell.specs.Cells.{CellView, Stands, end_of}
use Rattle.series_cell.specs.inner.CellParts.{view_of}
use Rattle.series_cell.proofs.Lent.{lent_cell, lent_view, some_put}
use Rattle.series_cell.proofs.Sizes.{sized, within}
use Rattle.series_cell.proofs.Standing.{stands_put}
use Rattle.series_cell.proofs.Words.{words_added}
use Rattle.series_cell.proofs.cell.Cell.put_reserved.Goals as goal

pub add-requires : goal.add-requires
add-requires c =
    let i = c.as_mut-kept.result.now in
    let own = lent_cell c.as_mut-kept.ensures.value c.self.invariant in
    let is = lent_view c.as_mut-kept.ensures.value c.self.view_is in
    let v : CellView = view_of i in
    let s = sized v own.0 own.1 in
    let top : Fits (2 ^ 64 - 1) i.rows.accepted c.row.result.now =
    subst (λ (r : List ℕ). Fits (2 ^ 64 - 1) i.rows.accepted r) (sym c.row.ensures.value)
    (subst (λ (w : CellView). Fits (2 ^ 64 - 1) w.accepted c.args.point.now.row) (sym is)
    c.requires.fits) in
    record {
      same = s.accepted ∙ sym (ap length c.row.ensures.value
          ∙ (c.row.ensures.made.merged.long
          ∙ ap (λ (x : Identity). row_length x.kind)
          (c.requires.series ∙ sym (ap (λ (w : CellView). w.id) is))));
      accepted = top;
      stored = λ k l.
          let w = within v own.0 k own.1 in
          omega (arith, top k (omega (arith, l, s.stored, s.accepted)), w.stored);
    }

pub invariant_of-self : goal.invariant_of-self
invariant_of-self c =
    let i = c.as_mut-kept.result.now in
    let own = lent_cell c.as_mut-kept.ensures.value c.self.invariant in
    let is = lent_view c.as_mut-kept.ensures.value c.self.view_is in
    let long : length c.args.point.now.row ≡ row_length i.id.kind =
    c.row.ensures.made.merged.long ∙ ap (λ (x : Identity). row_length x.kind)
    (c.requires.series ∙ sym (ap (λ (w : CellView). w.id) is)) in
    let s = sized _ own.0 own.1 in
    rw c.add.ensures (record {
      cell = (
        own.0 ++ admitted c.args.batch i.owner c.args.point.now ∷ [],
        stands_put _ i.owner c.args.point.now c.args.batch own.0 _ _ _ _ refl own.1
            c.row.ensures.made.merged.span c.row.ensures.made.merged.long
            (c.requires.series ∙ sym (ap (λ (w : CellView). w.id) is))
            (subst (λ (w : CellView). end_of w ≤ c.args.point.now.span.start) (sym is)
            c.requires.order)
            (ap (add_rows i.rows.accepted) c.row.ensures.value)
            (ap (add_rows i.rows.stored) c.row.ensures.value)
            (c.push_reserved.ensures.items
            ∙ ap (λ (t : Interval). i.spans.items ++ record { span = t; batch = c.args.batch }
            ∷ []) c.span.ensures),
      );
      words = words_added i.rows.accepted c.args.point.now.row _ (long ∙ sym s.accepted)
          (subst (λ (w : CellView). Fits (2 ^ 64 - 1) w.accepted c.args.point.now.row) (sym is)
          c.requires.fits) (ap (add_rows i.rows.accepted) c.row.ensures.value);
      lean = λ n. absurd (some_put _ i.spans.items _ c.push_reserved.ensures.items n);
    })

pub returns-clause-stands : goal.returns-clause-stands
returns-clause-stands c = λ qs g.
    let i = c.as_mut-kept.result.now in
    let is = lent_view c.as_mut-kept.ensures.value c.self.view_is in
    let v : CellView = view_of i in
    let h : Stands v qs = subst (λ (w : CellView). Stands w qs) (sym is) g in
    rw c.add.ensures
    (stands_put v c.args.self.now.owner c.args.point.now c.args.batch qs
    _ _ _ _ (sym (ap (λ (w : CellView). w.owner) is)) h c.row.ensures.made.merged.span
    c.row.ensures.made.merged.long
    (c.requires.series ∙ sym (ap (λ (w : CellView). w.id) is))
    (subst (λ (w : CellView). end_of w ≤ c.args.point.now.span.start) (sym is) c.requires.order)
    (ap (add_rows i.rows.accepted) c.row.ensures.value)
    (ap (add_rows i.rows.stored) c.row.ensures.value)
    (c.push_reserved.ensures.items ∙ ap
    (λ (t : Interval). i.spans.items ++ record { span = t; batch = c.args.batch } ∷ [])
    c.span.ensures))
