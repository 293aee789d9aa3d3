use Rattle.std.proofs.Common.{◌≡◌, None, sym, ◌∙◌}
use Rattle.json_points.specs.inner.Nodes.{data_at}
use Rattle.json_points.proofs.ListLemmas.{no_front, one_more, one_stops, all_read}
use Rattle.json_points.proofs.WalkLemmas.{over}
use Rattle.json_points.proofs.lists.all_of.Goals as goal

pub loop-node-init : goal.loop-node-init
loop-node-init g c ds has = (ds, has, rw c.in_ok-found.ensures.items (no_front _))

pub loop-node-preserved : goal.loop-node-preserved
loop-node-preserved g c ds has =
    let now = c.loop-node.invariant ds has in
    let f = c.in-Some.ensures.value now.0 now.1 in (
      f.0,
      f.2,
      rw c.in_ok-push.ensures.items
          (one_more g.T.Element.reads c.loop-node.found.items c.in-Some-2.element now.0
          (data_at c.in-Some.node) f.0 _ f.1 (sym c.in_ok-element.ensures ∙ c.in-Some-2.is)
          now.2),
    )

pub returns-in_default-2 : goal.returns-in_default-2
returns-in_default-2 g c ds has =
    let now = c.loop-node.invariant ds has in
    let f = c.in-Some.ensures.value now.0 now.1 in
    sym (one_stops g.T.Element.reads c.loop-node.found.items now.0 (data_at c.in-Some.node) f.0
    _ f.1 (sym c.in_ok-element.ensures ∙ c.in_default-2.is) now.2)

pub returns : goal.returns
returns g c ds has =
    let now = c.loop-node.invariant ds has in
    sym (all_read g.T.Element.reads c.loop-node.found.items now.0
    _ (over _ c.next.result now.0 (c.next.ensures.value now.0 now.1) c.in_default.is) now.2)
