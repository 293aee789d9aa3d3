use Rattle.std.proofs.Common.{◌-◌, ◌∙◌, ap, sym, length, Some}
use Rattle.series_cell.proofs.Ends.{some_yet, hull_is}
use Rattle.series_cell.proofs.batch_span.hull.Goals as goal

pub returns : goal.returns
returns c = λ ordered.
    let some = some_yet (length c.args.spans.now) (sym c.is_empty.ensures ∙ c.if-is_empty.false) in
    ap Some c.hull.ensures ∙ sym (hull_is (length c.args.spans.now - 1) c.args.spans.now
    c.index-spans-0.result c.index-spans-spans.result some ordered)
