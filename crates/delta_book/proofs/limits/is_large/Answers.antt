use Rattle.std.proofs.Common.{sym, ◌∙◌, ap, not, ◌++◌, map}
use Rattle.std.proofs.lemmas.List.{drop_all}
use Rattle.series_id.specs.Identity.{Identity}
use Rattle.metric_events.specs.Points.{admitted}
use Rattle.metric_events.specs.Rows.{fits}
use Rattle.metric_events.specs.Legal.{is_too_large}
use Rattle.delta_book.specs.inner.Batches.{sum_with}
use Rattle.delta_book.proofs.Words.{length-with, large_here, large_later}
use Rattle.delta_book.proofs.limits.is_large.Goals as goal

pub returns-then-is_series_over : goal.returns-then-is_series_over
returns-then-is_series_over c = λ b s rs k h.
    let qs = rs ++ map (admitted b s) c.args.batch.now in
    let x = c.shared_series.result.now in
    let over = ap (λ (y : Identity). not (fits y.kind (sum_with b s y rs c.args.batch.now)))
    (sym c.shared_series.ensures)
    ∙ (sym (c.is_series_over.ensures b s rs h
    (length-with x b s rs c.args.batch.now k c.requires.made)) ∙ c.if-is_series_over.true) in
    sym (sym (c.loop-p.invariant b s rs k h)
    ∙ large_here qs c.args.batch.now c.loop-p.p-index c.p-item.result c.loop-p-test.true
    c.p-item.is over)

pub loop-p-preserved : goal.loop-p-preserved
loop-p-preserved c = λ b s rs k h.
    let qs = rs ++ map (admitted b s) c.args.batch.now in
    let x = c.shared_series.result.now in
    let over = ap (λ (y : Identity). not (fits y.kind (sum_with b s y rs c.args.batch.now)))
    (sym c.shared_series.ensures)
    ∙ (sym (c.is_series_over.ensures b s rs h
    (length-with x b s rs c.args.batch.now k c.requires.made)) ∙ c.if-is_series_over.false) in
    large_later qs c.args.batch.now c.loop-p.p-index c.p-item.result c.loop-p-test.true c.p-item.is
    over ∙ c.loop-p.invariant b s rs k h

pub returns : goal.returns
returns c = λ b s rs k h.
    let qs = rs ++ map (admitted b s) c.args.batch.now in
    sym (ap (is_too_large qs) (drop_all c.loop-p.p-index c.args.batch.now c.loop-p-test.false))
    ∙ c.loop-p.invariant b s rs k h
