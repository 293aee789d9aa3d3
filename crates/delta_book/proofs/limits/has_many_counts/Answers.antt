use Rattle.std.proofs.Common.{sym, ap, drop, sum, arith}
use Rattle.std.proofs.lemmas.Bool.{lt-ltb, le-ltb}
use Rattle.std.proofs.lemmas.List.{drop_all}
use Rattle.metric_events.specs.declared.limits.TheConstants.{MAX_COUNT}
use Rattle.delta_book.specs.inner.Batches.{sum_with}
use Rattle.delta_book.proofs.Words.{sum_rest}
use Rattle.delta_book.proofs.limits.has_many_counts.Goals as goal

pub returns-then-total-from : goal.returns-then-total-from
returns-then-total-from c = λ b s qs h n.
    let row = sum_with b s c.args.series.now qs c.args.batch.now in
    let k = c.loop-k.k in
    sym (lt-ltb MAX_COUNT (sum (drop 3 row))
    (omega (
      arith,
      sum_rest row k (omega (arith, n, c.loop-k-test.true)),
      c.loop-k.invariant.sum
          b s qs h n,
      c.word_total-total.ensures.value b s qs h,
      c.from.ensures,
      c.if-total-from.true,
    )))

pub loop-k-preserved : goal.loop-k-preserved
loop-k-preserved c = record {
  few = omega (arith, c.from.ensures, c.if-total-from.false);
  sum = λ b s qs h n.
      let row = sum_with b s c.args.series.now qs c.args.batch.now in
      omega (
        arith,
        sum_rest row c.loop-k.k (omega (arith, n, c.loop-k-test.true)),
        c.loop-k.invariant.sum b s qs h n,
        c.word_total-total.ensures.value b s qs h,
      );
}

pub returns : goal.returns
returns c = λ b s qs h n.
    let row = sum_with b s c.args.series.now qs c.args.batch.now in
    sym (le-ltb MAX_COUNT (sum (drop 3 row))
    (omega (
      arith,
      c.loop-k.invariant.few,
      c.loop-k.invariant.sum b s qs h n,
      ap sum
          (drop_all c.loop-k.k row (omega (arith, n, c.loop-k-test.false))),
    )))
