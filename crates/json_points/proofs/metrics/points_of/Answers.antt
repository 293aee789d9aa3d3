use Rattle.std.proofs.Common.{refl}
use Rattle.json_points.specs.inner.Nodes.{data_at}
use Rattle.json_points.proofs.WalkLemmas.{over, point_more, point_done}
use Rattle.json_points.proofs.metrics.points_of.Goals as goal

pub loop-node-init : goal.loop-node-init
loop-node-init g c ds has = (ds, has, refl)

pub loop-node-preserved : goal.loop-node-preserved
loop-node-preserved g c ds has =
    let now = c.loop-node.invariant ds has in
    let f = c.in-Some.ensures.value now.0 now.1 in (
      f.0,
      f.2,
      point_more (g.S.PointStream.reads c.args.stream) now.0 (data_at c.in-Some.node) f.0
          _ _ _ _ f.1 c.in_ok-point.ensures c.in_ok-add_point.ensures now.2,
    )

pub returns : goal.returns
returns g c ds has =
    let now = c.loop-node.invariant ds has in
    point_done (g.S.PointStream.reads c.args.stream) now.0
    _ _ (over _ c.next.result now.0 (c.next.ensures.value now.0 now.1) c.in_default.is) now.2
