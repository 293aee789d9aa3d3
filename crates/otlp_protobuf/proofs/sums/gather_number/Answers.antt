use Rattle.std.proofs.Common.{ap, sym, ◌∙◌}
use Rattle.otlp_protobuf.specs.Wire.{fields}
use Rattle.otlp_protobuf.specs.Fields.{gathered}
use Rattle.otlp_protobuf.specs.Points.{no_number, take_number}
use Rattle.otlp_protobuf.proofs.RunLemmas.{number_others}
use Rattle.otlp_protobuf.proofs.sums.gather_number.Goals as goal

pub returns-clause-said : goal.returns-clause-said
returns-clause-said c =
    sym (ap (gathered take_number c.loop-field.point) c.in_default.ensures.field)
    ∙ c.loop-field.invariant.said ∙ number_others (fields c.args.bytes.now) no_number
