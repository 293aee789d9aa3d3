use Rattle.std.proofs.Common.{sym, ◌∙◌, ap, ◌≡◌, true, false, max, take, Some, arith, refl}
use Rattle.metric_events.specs.Interval.{Interval}
use Rattle.metric_events.specs.Series.{frontier}
use Rattle.delta_book.proofs.PointFaults.{fault_here, fault_later, fault_taken}
use Rattle.delta_book.specs.Refusals.{has_other_writer}
use Rattle.delta_book.specs.inner.Batches.{frontier_in}
use Rattle.delta_book.specs.declared.faults.AdmitFault.TheVariants.{OutOfOrder}
use Rattle.delta_book.proofs.without_alloc.fault_without_alloc.Goals as goal

pub returns-then-is_taken : goal.returns-then-is_taken
returns-then-is_taken c = λ qs h.
    let p = c.index-batch-i.result in
    let other : has_other_writer qs p.series c.args.sender.now ≡ true =
    ap (λ x. has_other_writer qs x c.args.sender.now) (sym c.shared_series-series.ensures)
    ∙ (sym (c.is_taken.ensures qs h) ∙ c.if-is_taken.true) in
    sym (fault_taken qs c.args.sender.now c.args.batch.now c.loop-i.i p c.loop-i-test.true
    c.index-batch-i.is other) ∙ c.loop-i.invariant qs h

pub returns-then-start-end : goal.returns-then-start-end
returns-then-start-end c = λ qs h.
    let p = c.index-batch-i.result in
    let none : has_other_writer qs p.series c.args.sender.now ≡ false =
    ap (λ x. has_other_writer qs x c.args.sender.now) (sym c.shared_series-series.ensures)
    ∙ (sym (c.is_taken.ensures qs h) ∙ c.if-is_taken.false) in
    let end : c.max-end.result ≡ max (frontier p.series qs)
    (frontier_in p.series (take c.loop-i.i c.args.batch.now)) =
    c.max-end.ensures ∙ rw (
      c.end_of.ensures qs h,
      c.end_in.ensures,
      c.shared_series-series.ensures,
    ) refl in
    let start : c.start.result ≡ p.span.start =
    c.start.ensures ∙ ap (λ (t : Interval). t.start) c.span.ensures in
    ap (λ n. Some (OutOfOrder c.loop-i.i n)) end
    ∙ (sym (fault_here qs c.args.sender.now c.args.batch.now c.loop-i.i p c.loop-i-test.true
    c.index-batch-i.is none (omega (arith, end, start, c.if-start-end.true)))
    ∙ c.loop-i.invariant qs h)

pub loop-i-preserved : goal.loop-i-preserved
loop-i-preserved c = λ qs h.
    let p = c.index-batch-i.result in
    let none : has_other_writer qs p.series c.args.sender.now ≡ false =
    ap (λ x. has_other_writer qs x c.args.sender.now) (sym c.shared_series-series.ensures)
    ∙ (sym (c.is_taken.ensures qs h) ∙ c.if-is_taken.false) in
    let end : c.max-end.result ≡ max (frontier p.series qs)
    (frontier_in p.series (take c.loop-i.i c.args.batch.now)) =
    c.max-end.ensures ∙ rw (
      c.end_of.ensures qs h,
      c.end_in.ensures,
      c.shared_series-series.ensures,
    ) refl in
    let start : c.start.result ≡ p.span.start =
    c.start.ensures ∙ ap (λ (t : Interval). t.start) c.span.ensures in
    sym (fault_later qs c.args.sender.now c.args.batch.now c.loop-i.i p c.loop-i-test.true
    c.index-batch-i.is none (omega (arith, end, start, c.if-start-end.false)))
    ∙ c.loop-i.invariant qs h
