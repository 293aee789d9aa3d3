use Rattle.std.proofs.Common.{◌≡◌, ◌<◌, refl, sym, ap, ◌∙◌, subst, drop, []}
use Rattle.metric_events.specs.Rows.{zeros}
use Rattle.series_cell.specs.Cells.{CellView, Stands, HandsOn, end_of}
use Rattle.series_cell.specs.inner.CellParts.{view_of}
use Rattle.series_cell.specs.Spans.{hull_of, joined_spans}
use Rattle.series_cell.proofs.Lent.{lent_cell, lent_words, lent_view}
use Rattle.series_cell.proofs.Sizes.{sized}
use Rattle.series_cell.proofs.Carrying.{stands_carried, stands_for_none, cell_carried}
use Rattle.series_cell.proofs.Standing.{home_in_order}
use Rattle.series_cell.proofs.Words.{words_stored}
use Rattle.series_cell.proofs.cell.Cell.carry.Goals as goal

pub invariant_of-self : goal.invariant_of-self
invariant_of-self c =
    let i = c.as_mut-kept.result.now in
    let own = lent_cell c.as_mut-kept.ensures.value c.self.invariant in
    let is = lent_view c.as_mut-kept.ensures.value c.self.view_is in
    let v : CellView = view_of i in
    let h : Stands v own.0 = own.1 in
    let s = sized v own.0 h in
    let none : i.cut ≡ 0 = ap (λ (w : CellView). w.cut) is ∙ c.requires in
    rw c.carry.ensures (record {
      cell =
          cell_carried v own.0 _ _ _ _ _ _ h none
          refl
          (ap zeros s.acknowledged)
          (ap zeros s.dropped)
          (c.give_back_room.ensures.items
          ∙ (c.join_all.ensures.items (home_in_order v own.0 h i.spans.items
          (ap (λ n. drop n i.spans.items) (sym none)))
          ∙ ap (λ n. joined_spans (hull_of (drop n i.spans.items))) (sym none)))
          (c.frontier-frontier.ensures ∙ ap end_of (sym is));
      words = words_stored v own.0 _ h (lent_words c.as_mut-kept.ensures.value c.self.invariant)
          refl;
      lean = c.give_back_room.ensures.lean;
    })

pub returns-clause-stands : goal.returns-clause-stands
returns-clause-stands c = λ t k l.
    let i = c.as_mut-kept.result.now in
    let own = lent_cell c.as_mut-kept.ensures.value c.self.invariant in
    let is = lent_view c.as_mut-kept.ensures.value c.self.view_is in
    let v : CellView = view_of i in
    let h : Stands v own.0 = own.1 in
    let s = sized v own.0 h in
    let hands : HandsOn v t = subst (λ (w : CellView). HandsOn w t) (sym is) k in
    let none : i.cut ≡ 0 = ap (λ (w : CellView). w.cut) is ∙ c.requires in
    let some : 0 < end_of v = subst (λ (w : CellView). 0 < end_of w) (sym is) l in
    rw c.carry.ensures (stands_carried v own.0 t _ _ _ _ _ _ h none some hands
    refl
    (ap zeros s.acknowledged)
    (ap zeros s.dropped)
    (c.give_back_room.ensures.items ∙ (c.join_all.ensures.items
    (home_in_order v own.0 h i.spans.items (ap (λ n. drop n i.spans.items) (sym none)))
    ∙ ap (λ n. joined_spans (hull_of (drop n i.spans.items))) (sym none)))
    (c.frontier-frontier.ensures ∙ ap end_of (sym is)))

pub returns-clause-none : goal.returns-clause-none
returns-clause-none c k =
    let i = c.as_mut-kept.result.now in
    let own = lent_cell c.as_mut-kept.ensures.value c.self.invariant in
    let is = lent_view c.as_mut-kept.ensures.value c.self.view_is in
    let v : CellView = view_of i in
    let h : Stands v [] = subst (λ (w : CellView). Stands w []) (sym is) k in
    let s = sized v [] h in
    let none : i.cut ≡ 0 = ap (λ (w : CellView). w.cut) is ∙ c.requires in
    rw c.carry.ensures (stands_for_none v _ _ _ _ _ _ h none
    refl
    (ap zeros s.acknowledged)
    (ap zeros s.dropped)
    (c.give_back_room.ensures.items ∙ (c.join_all.ensures.items
    (home_in_order v [] h i.spans.items (ap (λ n. drop n i.spans.items) (sym none)))
    ∙ ap (λ n. joined_spans (hull_of (drop n i.spans.items))) (sym none)))
    (c.frontier-frontier.ensures ∙ ap end_of (sym is)))
