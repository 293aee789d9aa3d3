use Rattle.std.proofs.Common.{refl, ap, sym, ◌∙◌}
use Rattle.otlp_read.specs.Tallies.{tally}
use Rattle.json_points.specs.inner.Nodes.{data_at}
use Rattle.json_points.proofs.WalkLemmas.{over, each_more, each_done}
use Rattle.json_points.proofs.reader.each_of.Goals as goal

pub loop-node-init : goal.loop-node-init
loop-node-init g c ds has = (ds, has, refl)

pub loop-node-preserved : goal.loop-node-preserved
loop-node-preserved g c ds has =
    let now = c.loop-node.invariant ds has in
    let f = c.in-Some.ensures.value now.0 now.1 in (
      f.0,
      f.2,
      each_more (g.O.Object.adds c.args.above) now.0 (data_at c.in-Some.node) f.0 _ _ _ f.1
          c.in_ok-read.ensures now.2,
    )

pub returns : goal.returns
returns g c ds has =
    let now = c.loop-node.invariant ds has in
    sym now.2 ∙ each_done (g.O.Object.adds c.args.above) now.0
    _ _ (over _ c.next.result now.0 (c.next.ensures.value now.0 now.1) c.in_default.is) refl
