use Rattle.std.proofs.Common.{refl, rules, w64}
use Rattle.std.proofs.lemmas.Int.{to_z-of_z}
use Rattle.std.specs.Prelude.{FitsSigned}
use Rattle.json_points.specs.inner.SumParts.{said_by}
use Rattle.json_points.proofs.sums.sum_fields.Goals as goal

pub returns-then-is_whole_value : goal.returns-then-is_whole_value
unfolding said_by
returns-then-is_whole_value c =
    let f : FitsSigned w64 c.in_ok-value.value = search rules in
    rw (
      ← c.in_ok-start.ensures,
      ← c.in_ok-end.ensures,
      ← c.in_ok-value.ensures,
      ←
          c.if-is_whole_value.ensures,
      to_z-of_z,
    ) refl
