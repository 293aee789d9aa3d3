use Rattle.std.proofs.Common.{refl, ap, sym, ◌∙◌}
use Rattle.std.specs.List.{list_all}
use Rattle.otlp_read.specs.Containers.{is_object}
use Rattle.json_points.specs.inner.Nodes.{data_at}
use Rattle.json_points.proofs.WalkLemmas.{over, all_more}
use Rattle.json_points.proofs.containers.are_objects.Goals as goal

pub loop-node-init : goal.loop-node-init
loop-node-init c ds has = (ds, has, refl)

pub loop-node-preserved : goal.loop-node-preserved
loop-node-preserved c ds has =
    let now = c.loop-node.invariant ds has in
    let f = c.in-Some.ensures.value now.0 now.1 in (
      f.0,
      f.2,
      all_more now.0 (data_at c.in-Some.node) f.0 _ f.1
          (sym c.is_object.ensures ∙ c.if-not-is_object.false) now.2,
    )

pub returns : goal.returns
returns c _ ds has =
    let now = c.loop-node.invariant ds has in
    sym now.2 ∙ ap (list_all is_object)
    (over _ c.next.result now.0 (c.next.ensures.value now.0 now.1) c.in_default.is)
