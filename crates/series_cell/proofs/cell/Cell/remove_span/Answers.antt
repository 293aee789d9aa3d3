use Rattle.std.proofs.Common.{◌+◌, ap, ◌∙◌, arith, drop, refl, ◌∷◌, ◌++◌, remove}
use Rattle.metric_events.specs.Points.{admitted}
use Rattle.metric_events.specs.Interval.{Interval}
use Rattle.series_cell.specs.Cells.{CellView, Stands, HasHome, bare}
use Rattle.series_cell.specs.inner.CellParts.{view_of}
use Rattle.series_cell.proofs.Lent.{lent, lent_words}
use Rattle.series_cell.proofs.Standing.{stands_remove_span, parted, span_inside, found}
use Rattle.series_cell.proofs.cell.Cell.remove_span.Goals as goal

pub remove-requires : goal.remove-requires
remove-requires c =
    let i = c.as_mut-kept.result.now in
    let v : CellView = view_of i in
    let g : HasHome v c.args.batch (bare c.args.point.now) =
    lent (λ (w : CellView). HasHome w c.args.batch (bare c.args.point.now))
    c.as_mut-kept.ensures.value c.self.view_is c.requires in
    let h = g.1.1 in
    let at =
    found v _ c.spans_from-home.result.now c.args.point.now.span.start c.start.result
    c.find_start.result h
    (c.spans_from-home.ensures ∙ ap (drop i.cut) c.deref.ensures.value)
    (c.start.ensures ∙ ap (λ (t : Interval). t.start) c.span.ensures) c.find_start.ensures.value in
    let inside = span_inside v g.0 g.1.0 (admitted c.args.batch i.owner (bare c.args.point.now)) h
    (parted v g.0 g.1.0 (admitted c.args.batch i.owner (bare c.args.point.now)) h refl) in
    omega (arith, inside, at, i.spans.ok.0)

pub invariant_of-self : goal.invariant_of-self
invariant_of-self c =
    let i = c.as_mut-kept.result.now in
    let v : CellView = view_of i in
    let g : HasHome v c.args.batch (bare c.args.point.now) =
    lent (λ (w : CellView). HasHome w c.args.batch (bare c.args.point.now))
    c.as_mut-kept.ensures.value c.self.view_is c.requires in
    let h = g.1.1 in
    let at =
    found v _ c.spans_from-home.result.now c.args.point.now.span.start c.start.result
    c.find_start.result h
    (c.spans_from-home.ensures ∙ ap (drop i.cut) c.deref.ensures.value)
    (c.start.ensures ∙ ap (λ (t : Interval). t.start) c.span.ensures) c.find_start.ensures.value in
    record {
      cell = (
        g.0 ++ g.1.0,
        stands_remove_span v c.args.batch c.args.point.now g.0 g.1.0 _ _ h
            (c.give_back_room.ensures.items
            ∙ (c.remove.ensures.items ∙ ap (λ n. remove i.spans.items (i.cut + n)) at)),
      );
      words = lent_words c.as_mut-kept.ensures.value c.self.invariant;
      lean = c.give_back_room.ensures.lean;
    }

pub returns-clause-stands : goal.returns-clause-stands
returns-clause-stands c = λ before after k.
    let i = c.as_mut-kept.result.now in
    let v : CellView = view_of i in
    let h : Stands v (before ++ admitted c.args.batch v.owner (bare c.args.point.now) ∷ after) =
    lent (λ (w : CellView). Stands w
    (before ++ admitted c.args.batch w.owner (bare c.args.point.now) ∷ after))
    c.as_mut-kept.ensures.value c.self.view_is k in
    let at =
    found v _ c.spans_from-home.result.now c.args.point.now.span.start c.start.result
    c.find_start.result h
    (c.spans_from-home.ensures ∙ ap (drop i.cut) c.deref.ensures.value)
    (c.start.ensures ∙ ap (λ (t : Interval). t.start) c.span.ensures) c.find_start.ensures.value in
    stands_remove_span v c.args.batch c.args.point.now before after _ _ h
    (c.give_back_room.ensures.items
    ∙ (c.remove.ensures.items ∙ ap (λ n. remove i.spans.items (i.cut + n)) at))
