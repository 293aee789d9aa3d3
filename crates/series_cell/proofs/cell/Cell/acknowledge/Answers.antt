use Rattle.std.proofs.Common.{sym, ap, ◌∙◌, subst, take, map, max, refl}
use Rattle.metric_events.specs.Points.{landed}
use Rattle.metric_events.specs.Rows.{zeros}
use Rattle.metric_events.specs.declared.place.Place.TheVariants.{Acknowledged}
use Rattle.series_cell.specs.Cells.{CellView, Stands}
use Rattle.series_cell.specs.inner.CellParts.{view_of}
use Rattle.series_cell.specs.Spans.{end_of_spans}
use Rattle.series_cell.proofs.Lent.{lent_cell, lent_words, lent_view}
use Rattle.series_cell.proofs.Sizes.{sized, within}
use Rattle.series_cell.proofs.Standing.{stands_acknowledged}
use Rattle.series_cell.proofs.Words.{rows_fit}
use Rattle.series_cell.proofs.cell.Cell.acknowledge.Goals as goal

pub acknowledge-requires : goal.acknowledge-requires
acknowledge-requires c =
    let own = lent_cell c.as_mut-kept.ensures.value c.self.invariant in
    let s = sized _ own.0 own.1 in
    rows_fit _ _ _ (λ k. (within _ own.0 k own.1).acknowledged) (s.acknowledged ∙ sym s.accepted)
    (lent_words c.as_mut-kept.ensures.value c.self.invariant)

pub invariant_of-self : goal.invariant_of-self
invariant_of-self c =
    let i = c.as_mut-kept.result.now in
    let own = lent_cell c.as_mut-kept.ensures.value c.self.invariant in
    rw c.acknowledge.ensures (record {
      cell = (
        map (landed i.flush Acknowledged) own.0,
        stands_acknowledged _ i.flush own.0 _ _ _ _ _ refl own.1 refl
            (ap zeros (sized _ own.0 own.1).in_flight)
            (c.give_back_room.ensures.items ∙ c.drop_first.ensures.items)
            (c.max-kept.ensures ∙ ap (λ n. max i.landed n)
            (c.end_or.ensures ∙ ap (end_of_spans 0)
            (c.spans_to.ensures ∙ ap (take i.cut) c.deref.ensures.value))),
      );
      words = lent_words c.as_mut-kept.ensures.value c.self.invariant;
      lean = c.give_back_room.ensures.lean;
    })

pub returns-clause-stands : goal.returns-clause-stands
returns-clause-stands c = λ qs g.
    let i = c.as_mut-kept.result.now in
    let is = lent_view c.as_mut-kept.ensures.value c.self.view_is in
    let v : CellView = view_of i in
    let h : Stands v qs = subst (λ (w : CellView). Stands w qs) (sym is) g in
    rw c.acknowledge.ensures
    (stands_acknowledged v c.args.self.now.flush qs _ _ _ _ _
    (sym (ap (λ (w : CellView). w.flush) is)) h refl (ap zeros (sized v qs h).in_flight)
    (c.give_back_room.ensures.items ∙ c.drop_first.ensures.items)
    (c.max-kept.ensures ∙ ap (λ n. max i.landed n)
    (c.end_or.ensures
    ∙ ap (end_of_spans 0) (c.spans_to.ensures ∙ ap (take i.cut) c.deref.ensures.value))))
