use Rattle.std.proofs.Common.{arith}
use Rattle.json_points.proofs.MetricLemmas.{count_more, count_done}
use Rattle.json_points.proofs.WalkLemmas.{over}
use Rattle.json_points.proofs.metrics.count_of.Goals as goal

pub loop-found-init : goal.loop-found-init
loop-found-init c = record { few = omega arith; same = λ ds has. (ds, has, omega arith) }

pub loop-found-preserved : goal.loop-found-preserved
loop-found-preserved c = record {
  few = omega arith;
  same = λ ds has.
      let now = c.loop-found.invariant.same ds has in
      let f = c.in-Some.ensures.value now.0 now.1 in (
        f.0,
        f.2,
        count_more c.loop-found.found _ now.0 _ f.0 _ c.saturating_add-found.ensures f.1
            now.2,
      );
}

pub returns : goal.returns
returns c ds has =
    let now = c.loop-found.invariant.same ds has in
    count_done c.loop-found.found now.0 _ c.loop-found.invariant.few
    (over _ c.next.result now.0 (c.next.ensures.value now.0 now.1) c.in_default.is) now.2
