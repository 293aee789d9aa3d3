use Rattle.std.proofs.Common.{refl}
use Rattle.otlp_read.specs.Histograms.{histogram_fields}
use Rattle.json_points.proofs.histograms.histogram_fields.Goals as goal

pub returns-then-flags_fit : goal.returns-then-flags_fit
unfolding histogram_fields
returns-then-flags_fit c =
    rw (
      ← c.in_ok-start.ensures,
      ← c.in_ok-end.ensures,
      ← c.in_ok-count.ensures,
      ←
          c.in_ok-total.ensures,
      ← c.field.ensures,
      ← c.if-flags_fit.ensures,
    ) refl
