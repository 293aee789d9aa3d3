use Rattle.std.proofs.Common.{ℕ, ◌+◌, sym, ap, ◌∙◌, arith, drop, length, refl, List, ◌∷◌, ◌++◌}
use Rattle.std.proofs.Common.{remove}
use Rattle.std.specs.Prelude.{slice_index}
use Rattle.metric_events.specs.Points.{admitted}
use Rattle.metric_events.specs.Interval.{Interval}
use Rattle.series_cell.specs.Cells.{CellView, Stands, HasHome}
use Rattle.series_cell.specs.inner.CellParts.{view_of}
use Rattle.series_cell.proofs.ByPlace.{taken_row, part_le}
use Rattle.series_cell.proofs.Lent.{lent, lent_words}
use Rattle.series_cell.proofs.Sizes.{sized}
use Rattle.series_cell.proofs.Standing.{stands_remove, taken_from, parted, span_inside, found}
use Rattle.series_cell.proofs.Words.{words_left}
use Rattle.series_cell.proofs.cell.Cell.remove.Goals as goal

pub sub-requires : goal.sub-requires
sub-requires c =
    let i = c.as_mut-kept.result.now in
    let v : CellView = view_of i in
    let g : HasHome v c.args.batch c.args.point.now =
    lent (λ (w : CellView). HasHome w c.args.batch c.args.point.now) c.as_mut-kept.ensures.value
    c.self.view_is c.requires in
    let t = taken_from v c.args.batch c.args.point.now g.0 g.1.0 g.1.1 in
    let s = sized v _ g.1.1 in
    record {
      same = s.accepted ∙ sym (ap length c.row.ensures.value ∙ t.long);
      accepted = λ k l. omega (
        arith,
        part_le c.args.point.now.row _ i.rows.accepted k t.accepted,
        ap
            (λ (r : List ℕ). slice_index r k) c.row.ensures.value,
      );
      stored = λ k l. omega (
        arith,
        part_le c.args.point.now.row _ i.rows.stored k t.stored,
        ap
            (λ (r : List ℕ). slice_index r k) c.row.ensures.value,
      );
    }

pub remove-requires : goal.remove-requires
remove-requires c =
    let i = c.as_mut-kept.result.now in
    let v : CellView = view_of i in
    let g : HasHome v c.args.batch c.args.point.now =
    lent (λ (w : CellView). HasHome w c.args.batch c.args.point.now) c.as_mut-kept.ensures.value
    c.self.view_is c.requires in
    let h = g.1.1 in
    let at =
    found v _ c.spans_from.result.now c.args.point.now.span.start c.start.result c.find_start.result
    h
    (c.spans_from.ensures ∙ ap (drop i.cut) c.deref.ensures.value)
    (c.start.ensures ∙ ap (λ (t : Interval). t.start) c.span.ensures) c.find_start.ensures.value in
    let inside = span_inside v g.0 g.1.0 (admitted c.args.batch i.owner c.args.point.now) h
    (parted v g.0 g.1.0 (admitted c.args.batch i.owner c.args.point.now) h refl) in
    omega (arith, inside, at, i.spans.ok.0)

pub invariant_of-self : goal.invariant_of-self
invariant_of-self c =
    let i = c.as_mut-kept.result.now in
    let v : CellView = view_of i in
    let g : HasHome v c.args.batch c.args.point.now =
    lent (λ (w : CellView). HasHome w c.args.batch c.args.point.now) c.as_mut-kept.ensures.value
    c.self.view_is c.requires in
    let h = g.1.1 in
    let t = taken_from v c.args.batch c.args.point.now g.0 g.1.0 h in
    let s = sized v _ h in
    let left = taken_row i.rows.accepted c.args.point.now.row _ _ _ c.row.ensures.value t.accepted
    (t.accepted_long ∙ sym s.accepted) c.sub.ensures.sizes.0 c.sub.ensures.accepted in
    let at =
    found v _ c.spans_from.result.now c.args.point.now.span.start c.start.result c.find_start.result
    h
    (c.spans_from.ensures ∙ ap (drop i.cut) c.deref.ensures.value)
    (c.start.ensures ∙ ap (λ (t : Interval). t.start) c.span.ensures) c.find_start.ensures.value in
    rw c.sub.ensures.rest (record {
      cell = (
        g.0 ++ g.1.0,
        stands_remove v c.args.batch c.args.point.now g.0 g.1.0 _ _ _ _ h
            left
            (taken_row i.rows.stored c.args.point.now.row _ _ _ c.row.ensures.value t.stored
            (t.stored_long ∙ sym s.stored) c.sub.ensures.sizes.1 c.sub.ensures.stored)
            (c.give_back_room.ensures.items
            ∙ (c.remove.ensures.items ∙ ap (λ n. remove i.spans.items (i.cut + n)) at)),
      );
      words = words_left i.rows.accepted c.args.point.now.row
          _ _ (lent_words c.as_mut-kept.ensures.value c.self.invariant) t.accepted
          (t.accepted_long ∙ sym s.accepted) left;
      lean = c.give_back_room.ensures.lean;
    })

pub returns-clause-stands : goal.returns-clause-stands
returns-clause-stands c = λ before after k.
    let i = c.as_mut-kept.result.now in
    let v : CellView = view_of i in
    let h : Stands v (before ++ admitted c.args.batch v.owner c.args.point.now ∷ after) =
    lent (λ (w : CellView). Stands w
    (before ++ admitted c.args.batch w.owner c.args.point.now ∷ after))
    c.as_mut-kept.ensures.value c.self.view_is k in
    let t = taken_from v c.args.batch c.args.point.now before after h in
    let s = sized v _ h in
    let at =
    found v _ c.spans_from.result.now c.args.point.now.span.start c.start.result c.find_start.result
    h
    (c.spans_from.ensures ∙ ap (drop i.cut) c.deref.ensures.value)
    (c.start.ensures ∙ ap (λ (t : Interval). t.start) c.span.ensures) c.find_start.ensures.value in
    rw c.sub.ensures.rest
    (stands_remove v c.args.batch c.args.point.now before after _ _ _ _ h
    (taken_row i.rows.accepted c.args.point.now.row _ _ _ c.row.ensures.value t.accepted
    (t.accepted_long ∙ sym s.accepted) c.sub.ensures.sizes.0 c.sub.ensures.accepted)
    (taken_row i.rows.stored c.args.point.now.row _ _ _ c.row.ensures.value t.stored
    (t.stored_long ∙ sym s.stored) c.sub.ensures.sizes.1 c.sub.ensures.stored)
    (c.give_back_room.ensures.items
    ∙ (c.remove.ensures.items ∙ ap (λ n. remove i.spans.items (i.cut + n)) at)))
