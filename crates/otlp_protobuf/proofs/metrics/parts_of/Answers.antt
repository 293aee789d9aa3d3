use Rattle.std.proofs.Common.{refl}
use Rattle.otlp_protobuf.proofs.KeptLemmas.{part_more, part_done}
use Rattle.otlp_protobuf.proofs.metrics.parts_of.Goals as goal

pub loop-field-preserved : goal.loop-field-preserved
loop-field-preserved c = record {
  gauge =
      part_more 5 _ _ _ _ _ _ c.in-Some.ensures c.in_ok-gauge.ensures c.loop-field.invariant.gauge;
  sum = part_more 7 _ _ _ _ _ _ c.in-Some.ensures c.in_ok-sum.ensures c.loop-field.invariant.sum;
  histogram = part_more 9 _ _ _ _ _ _ c.in-Some.ensures c.in_ok-histogram.ensures
      c.loop-field.invariant.histogram;
  exponential = part_more 10 _ _ _ _ _ _ c.in-Some.ensures c.in_ok-exponential.ensures
      c.loop-field.invariant.exponential;
  summary = part_more 11 _ _ _ _ _ _ c.in-Some.ensures c.in_ok-summary.ensures
      c.loop-field.invariant.summary;
}

pub returns : goal.returns
returns c =
    let i = c.loop-field.invariant in
    rw (
      ← part_done 5 _ _ _ c.in_default.ensures i.gauge,
      ← part_done 7 _ _ _ c.in_default.ensures i.sum,
      ← part_done 9 _ _ _ c.in_default.ensures i.histogram,
      ← part_done 10 _ _ _ c.in_default.ensures i.exponential,
      ← part_done 11 _ _ _ c.in_default.ensures i.summary,
    ) refl
