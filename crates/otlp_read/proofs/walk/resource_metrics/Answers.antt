use Rattle.std.proofs.Common.{sym}
use Rattle.otlp_read.specs.Reading.{resource_metrics}
use Rattle.otlp_read.proofs.walk.resource_metrics.Goals as goal

pub returns : goal.returns
unfolding resource_metrics
returns c = rw (
  sym c.field.ensures,
  c.in_ok-resource.ensures,
  sym c.field-2.ensures,
  c.in_ok-values.ensures,
  ← c.inner.ensures,
  ← c.in_ok-attributes.ensures,
  ←
      c.as_ref.ensures.value,
  ← c.resource_in.ensures,
) c.each.ensures
