use Rattle.std.proofs.Common.{refl}
use Rattle.otlp_read.specs.Fields.{field}
use Rattle.json_points.proofs.sums.no_parts.Goals as goal

pub returns : goal.returns
unfolding field
returns c = record {
  start = refl;
  end = refl;
  value = refl;
  flags = refl;
  double =
      refl;
  attributes = refl;
}
