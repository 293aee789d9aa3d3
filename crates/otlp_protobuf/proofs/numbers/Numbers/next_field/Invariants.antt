use Rattle.std.proofs.Common.{◌≡◌, length}
use Rattle.otlp_protobuf.specs.Fields.{numbers}
use Rattle.otlp_protobuf.specs.inner.Views.{fields_data}
use Rattle.otlp_protobuf.proofs.numbers.Numbers.next_field.Given as goal

abbrev pub invariant-loop-field : goal.invariant-loop-field
invariant-loop-field l = numbers l.fn.self.number (fields_data l.fn.self.rest)
    ≡ numbers l.self.number (fields_data l.self.rest)

abbrev pub decreases-loop-field : goal.decreases-loop-field
decreases-loop-field l = length (fields_data l.self.rest)
