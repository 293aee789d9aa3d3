use Rattle.std.proofs.Common.{refl, ap, sym, ◌∙◌, arith, subst}
use Rattle.otlp_protobuf.specs.Wire.{fields}
use Rattle.otlp_protobuf.specs.Fields.{contents, gathered, numbers, packed_from}
use Rattle.otlp_protobuf.specs.Points.{no_histogram, take_histogram}
use Rattle.otlp_protobuf.specs.inner.Runs.{others}
use Rattle.otlp_protobuf.specs.inner.SpotViews.{IsSpot}
use Rattle.otlp_protobuf.proofs.KeptLemmas.{gathered_more, spot_field, spot_done}
use Rattle.otlp_protobuf.proofs.RunLemmas.{histogram_others, numbers_others}
use Rattle.otlp_protobuf.proofs.histogram_gather.gather_histogram.Goals as goal

pub loop-field-init : goal.loop-field-init
unfolding packed_from
loop-field-init c = record {
  said = rw (c.new-found.ensures, c.of-rest.ensures) refl;
  seen = ap (contents 9) c.of-rest.ensures;
  buckets = ap (λ fs. numbers 6 (others 9 fs)) c.of-rest.ensures;
  bounds = ap (λ fs. numbers 7 (others 9 fs)) c.of-rest.ensures;
}

pub loop-field-preserved : goal.loop-field-preserved
loop-field-preserved c = record {
  said = gathered_more take_histogram c.loop-field.found _ _ _ _ _ c.take-found.ensures
      c.in-Some.ensures.field c.loop-field.invariant.said;
  seen = c.in-Some.ensures.seen _ c.loop-field.invariant.seen;
  buckets = c.put_numbers-buckets.ensures
      _ _ (spot_field 6 c.loop-field.buckets _ _ _ _ c.in-Some.ensures.field
      c.loop-field.invariant.buckets);
  bounds = c.put_numbers-bounds.ensures
      _ _ (spot_field 7 c.loop-field.bounds _ _ _ _ c.in-Some.ensures.field
      c.loop-field.invariant.bounds);
}

pub returns-clause-said : goal.returns-clause-said
returns-clause-said c =
    sym (ap (gathered take_histogram c.loop-field.found) c.in_default.ensures.field)
    ∙ c.loop-field.invariant.said ∙ histogram_others (fields c.args.bytes.now) no_histogram

pub returns-clause-buckets : goal.returns-clause-buckets
returns-clause-buckets c =
    subst (IsSpot c.loop-field.buckets _)
    (numbers_others 9 6 (λ e. omega arith) (fields c.args.bytes.now))
    (spot_done 6 c.loop-field.buckets _ _ c.in_default.ensures.field
    c.loop-field.invariant.buckets)

pub returns-clause-bounds : goal.returns-clause-bounds
returns-clause-bounds c =
    subst (IsSpot c.loop-field.bounds _)
    (numbers_others 9 7 (λ e. omega arith) (fields c.args.bytes.now))
    (spot_done 7 c.loop-field.bounds _ _ c.in_default.ensures.field
    c.loop-field.invariant.bounds)
