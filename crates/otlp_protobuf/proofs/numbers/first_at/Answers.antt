use Rattle.std.proofs.Common.{refl}
use Rattle.std.proofs.lemmas.Bool.{eq-eqb}
use Rattle.otlp_protobuf.specs.Fields.{packed_from}
use Rattle.otlp_protobuf.proofs.numbers.first_at.Goals as goal

pub returns-in-Fixed64 : goal.returns-in-Fixed64
unfolding packed_from
returns-in-Fixed64 c = rw (c.in-Fixed64.is, eq-eqb _ _ c.if-field-number.false) refl
