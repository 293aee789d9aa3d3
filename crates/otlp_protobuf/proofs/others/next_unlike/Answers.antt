use Rattle.std.proofs.Common.{ap, sym, ◌∙◌}
use Rattle.otlp_protobuf.specs.inner.Runs.{others}
use Rattle.otlp_protobuf.specs.inner.Views.{field_data, fields_data}
use Rattle.otlp_protobuf.proofs.RunLemmas.{others_is, sees_not, sees_done}
use Rattle.otlp_protobuf.proofs.others.next_unlike.Goals as goal

pub loop-field-preserved : goal.loop-field-preserved
loop-field-preserved c = record {
  field = sym (ap (others c.args.number) c.in-Some.ensures
      ∙ others_is c.args.number (field_data c.in-Some.field) (fields_data c.next.new.self)
      c.if-field-number.false) ∙ c.loop-field.invariant.field;
  seen = λ known all is. tt;
}

pub returns-then-field-number-clause-seen : goal.returns-then-field-number-clause-seen
returns-then-field-number-clause-seen c = λ known all is.
    sees_not c.args.number known c.loop-field.seen _ (field_data c.in-Some.field)
    (fields_data c.next.new.self) all c.in-Some.ensures c.if-field-number.true
    (c.loop-field.invariant.seen known all is)

pub returns-clause-seen : goal.returns-clause-seen
returns-clause-seen c = λ known all is. sees_done c.args.number known c.loop-field.seen _ all
    c.in_default.ensures (c.loop-field.invariant.seen known all is)
