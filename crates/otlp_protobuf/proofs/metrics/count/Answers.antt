use Rattle.std.proofs.Common.{ap, length, arith}
use Rattle.otlp_protobuf.specs.Fields.{contents}
use Rattle.otlp_protobuf.proofs.ListLemmas.{over}
use Rattle.otlp_protobuf.proofs.LoopLemmas.{count_more, count_done}
use Rattle.otlp_protobuf.proofs.metrics.count.Goals as goal

pub loop-found-init : goal.loop-found-init
loop-found-init c = record {
  few = omega arith;
  same =
      omega (arith, ap (λ fs. length (contents 1 fs)) c.of-rest.ensures);
}

pub loop-found-preserved : goal.loop-found-preserved
loop-found-preserved c = record {
  few = omega arith;
  same = count_more c.loop-found.found _ _ c.in-Some.field-0.now _ _ c.saturating_add-found.ensures
      c.in-Some.ensures c.loop-found.invariant.same;
}

pub returns : goal.returns
returns c = count_done c.loop-found.found _ _ c.loop-found.invariant.few
    (over _ _ c.next_content.result c.next_content.ensures c.in_default.is)
    c.loop-found.invariant.same
