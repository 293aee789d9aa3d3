use Rattle.std.proofs.Common.{arith}
use Rattle.series_id.specs.Sorting.{pair_of as pair_in}
use Rattle.otlp_read.specs.inner.RefViews.{pair_data}
use Rattle.otlp_read.proofs.LookupLemmas.{alike_more, alike_all}
use Rattle.otlp_read.proofs.lookup.are_pairs.Goals as goal

pub loop-i-preserved : goal.loop-i-preserved
loop-i-preserved c =
    alike_more pair_data pair_in c.args.pairs.now c.args.its.now c.loop-i.i _ _ c.loop-i-test.true
    (omega arith) c.index-its-i.is (c.is_pair.ensures.only c.if-not-is_pair.false)
    c.loop-i.invariant

pub returns : goal.returns
returns c = record {
  only = λ _. alike_all pair_data pair_in c.args.pairs.now c.args.its.now
      c.loop-i.i (omega arith) (omega arith) c.loop-i.invariant;
}
