use Rattle.std.proofs.Common.{ap, sym, subst, ◌∙◌}
use Rattle.series_cell.specs.Spans.{hull_of, AreInOrder}
use Rattle.series_cell.proofs.Ends.{not_joined}
use Rattle.series_cell.proofs.batch_span.join_all.Goals as goal

pub returns-in-None-clause-items : goal.returns-in-None-clause-items
returns-in-None-clause-items c = λ ordered.
    not_joined c.args.spans.now.items
    (sym (c.hull.ensures (subst AreInOrder (sym c.as_slice.ensures.value) ordered)
    ∙ ap hull_of c.as_slice.ensures.value) ∙ c.in-None.is)
