use Rattle.std.proofs.Common.{arith, sym}
use Rattle.std.specs.Prelude.{get_or}
use Rattle.otlp_read.specs.Attributes.{pair_of}
use Rattle.json_points.specs.inner.Nodes.{data_at}
use Rattle.json_points.specs.inner.RefViews.{pair_data}
use Rattle.json_points.proofs.FollowLemmas.{said_more, said_all, as_long}
use Rattle.json_points.proofs.WalkLemmas.{over}
use Rattle.json_points.proofs.follow.are_nodes.Goals as goal

pub loop-node-preserved : goal.loop-node-preserved
loop-node-preserved c = record {
  pairs = λ ds has.
      let now = c.loop-node.invariant.pairs ds has in
      let f = c.in-Some.ensures.value now.0 now.1 in (
        f.0,
        f.2,
        said_more c.args.its.now c.loop-node.count c.index-its-count.result
            (pair_data c.in-Some-pair_ref.pair) now.0 (data_at c.in-Some.node) f.0 _ (omega arith)
            c.index-its-count.is f.1 c.in-Some-pair_ref.ensures
            (c.is_pair.ensures.only c.if-not-is_pair.false) now.2,
      );
  within = omega arith;
}

pub returns : goal.returns
returns c = record {
  only = λ same ds has.
      let now = c.loop-node.invariant.pairs ds has in
      said_all c.args.its.now c.loop-node.count now.0 _ (as_long _ _ same)
      (over _ c.next.result now.0 (c.next.ensures.value now.0 now.1) c.in_default.is) now.2;
}
