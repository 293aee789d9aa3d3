use Rattle.std.proofs.Common.{◌∙◌, ◌-◌, ap, sym, length}
use Rattle.series_cell.specs.declared.batch_span.BatchSpan.{BatchSpan}
use Rattle.series_cell.proofs.Ends.{last_span, some_yet}
use Rattle.series_cell.proofs.batch_span.end_or.Goals as goal

pub returns : goal.returns
returns c =
    c.end.ensures.value ∙ (ap (λ (m : BatchSpan). m.span.end) (sym c.index-spans-spans.is)
    ∙ sym (last_span c.args.before (length c.args.spans.now - 1) c.args.spans.now
    c.index-spans-spans.result (some_yet (length c.args.spans.now)
    (sym c.is_empty.ensures ∙ c.if-is_empty.false)) c.index-spans-spans.is))
