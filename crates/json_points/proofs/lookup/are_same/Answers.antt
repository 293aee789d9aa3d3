use Rattle.std.proofs.Common.{arith}
use Rattle.json_points.proofs.SetLemmas.{same_more, same_all}
use Rattle.json_points.proofs.lookup.are_same.Goals as goal

pub loop-i-preserved : goal.loop-i-preserved
loop-i-preserved c =
    same_more c.args.mine.now c.args.its.now c.loop-i.i _ _ c.loop-i-test.true (omega arith)
    c.index-mine-i.is c.index-its-i.is
    (c.is_same_attribute.ensures.only c.if-not-is_same_attribute.false) c.loop-i.invariant

pub returns : goal.returns
returns c = record {
  only = λ _. same_all c.args.mine.now c.args.its.now c.loop-i.i (omega arith)
      (omega arith) c.loop-i.invariant;
}
