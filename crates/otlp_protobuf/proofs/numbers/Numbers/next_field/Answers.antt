use Rattle.otlp_protobuf.proofs.NumberLemmas.{field_step, field_skip, fields_over}
use Rattle.otlp_protobuf.proofs.numbers.Numbers.next_field.Goals as goal

pub returns-in-Some-first_at : goal.returns-in-Some-first_at
returns-in-Some-first_at c =
    field_step c.loop-field.self.number _ _ _ _ _ _ c.in-Some.ensures c.in-Some-first_at.ensures
    c.loop-field.invariant

pub loop-field-preserved : goal.loop-field-preserved
loop-field-preserved c =
    field_skip c.loop-field.self.number _ _ _ _ c.in-Some.ensures c.in_default-first_at.ensures
    c.loop-field.invariant

pub returns : goal.returns
returns c = fields_over c.loop-field.self.number _ _ c.in_default.ensures c.loop-field.invariant
