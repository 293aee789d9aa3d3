use Rattle.std.proofs.Common.{arith}
use Rattle.delta_book.proofs.Counting.{counted_on, counted_all, one_at_most}
use Rattle.delta_book.proofs.Searching.{cells_ascend}
use Rattle.delta_book.proofs.without_alloc.count_series.Goals as goal

pub loop-j-preserved : goal.loop-j-preserved
loop-j-preserved c = record {
  few = omega (
    arith,
    c.loop-j.invariant.few,
    one_at_most c.is_known.result c.one_unless-n.result
        c.one_unless-n.ensures,
  );
  value = λ b s qs h. counted_on c.args.cells.now c.args.batch.now c.loop-j.j c.loop-j.n
      c.index-batch-j.result c.shared_series.result.now c.is_known.result c.one_unless-n.result b s
      qs c.points_to.result.now h c.loop-j-test.true c.index-batch-j.is c.shared_series.ensures
      c.points_to.ensures (c.is_known.ensures (cells_ascend c.args.cells.now qs h))
      c.one_unless-n.ensures (c.loop-j.invariant.value b s qs h);
}

pub returns : goal.returns
returns c = λ b s qs h. counted_all c.loop-j.n c.loop-j.j b s qs c.args.batch.now
    c.loop-j-test.false (c.loop-j.invariant.value b s qs h)
