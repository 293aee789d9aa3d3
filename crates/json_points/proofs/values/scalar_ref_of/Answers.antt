use Rattle.std.proofs.Common.{refl}
use Rattle.otlp_read.specs.Values.{scalar_of, fields_of}
use Rattle.json_points.proofs.values.scalar_ref_of.Goals as goal

pub returns-then-is_no_scalar : goal.returns-then-is_no_scalar
unfolding scalar_of fields_of
returns-then-is_no_scalar c = rw (← c.is_no_scalar.ensures, c.if-is_no_scalar.true) refl

pub returns : goal.returns
unfolding scalar_of fields_of
returns c =
    rw (
      ← c.field-text.ensures,
      ← c.field-truth.ensures,
      ← c.field-int.ensures,
      ←
          c.is_no_scalar.ensures,
      c.if-is_no_scalar.false,
    ) c.only_of.ensures
