use Rattle.std.proofs.Common.{map, take, arith}
use Rattle.std.proofs.Math.ListN.{length-set}
use Rattle.otlp_read.specs.Attributes.{pair_of}
use Rattle.json_points.specs.declared.scalar_ref.PairRef.{PairRef}
use Rattle.json_points.specs.inner.Nodes.{data_at}
use Rattle.json_points.specs.inner.RefViews.{pair_data}
use Rattle.json_points.proofs.ListLemmas.{all_read}
use Rattle.json_points.proofs.PairLemmas.{pairs_more}
use Rattle.json_points.proofs.WalkLemmas.{over}
use Rattle.json_points.proofs.lookup.put_pairs.Goals as goal

pub loop-node-preserved : goal.loop-node-preserved
loop-node-preserved c = record {
  pairs = λ ds has.
      let now = c.loop-node.invariant.pairs ds has in
      let f = c.in-Some.ensures.value now.0 now.1 in (
        f.0,
        f.2,
        pairs_more c.loop-node.room c.loop-node.count c.in_ok-room.field-0 now.0
            (data_at c.in-Some.node) f.0 _ c.if-count-room.false f.1 c.in_ok-room.ensures now.2,
      );
  within = omega (arith, length-set {A = PairRef});
  same = omega (arith, length-set {A = PairRef});
}

pub returns-clause-pairs : goal.returns-clause-pairs
returns-clause-pairs c ds has =
    let now = c.loop-node.invariant.pairs ds has in
    all_read pair_of (map pair_data (take c.loop-node.count c.loop-node.room)) now.0
    _ (over _ c.next.result now.0 (c.next.ensures.value now.0 now.1) c.in_default.is) now.2
