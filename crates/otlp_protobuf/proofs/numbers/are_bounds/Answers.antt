use Rattle.std.proofs.Common.{length, arith}
use Rattle.std.proofs.lemmas.Bool.{leb-true}
use Rattle.otlp_protobuf.proofs.KeptLemmas.{bounds_more, bounds_done}
use Rattle.otlp_protobuf.proofs.ListLemmas.{numbers_over}
use Rattle.otlp_protobuf.proofs.numbers.are_bounds.Goals as goal

pub loop-bits-preserved : goal.loop-bits-preserved
loop-bits-preserved c = record {
  within = omega arith;
  same = bounds_more _ c.in-Some.bits _ _ c.args.bounds.now c.loop-bits.count _ (omega arith)
      c.in-Some.ensures (c.is_bound.ensures.only c.if-not-is_bound.false)
      c.loop-bits.invariant.same;
}

pub returns : goal.returns
returns c = record {
  only = λ whole.
      bounds_done _ _ c.args.bounds.now c.loop-bits.count
      (numbers_over _ _ c.next.result c.next.ensures c.in_default.is)
      (leb-true (length c.args.bounds.now) c.loop-bits.count whole)
      c.loop-bits.invariant.same;
}
