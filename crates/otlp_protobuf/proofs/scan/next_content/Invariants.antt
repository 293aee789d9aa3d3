use Rattle.std.proofs.Common.{◌≡◌, length}
use Rattle.otlp_protobuf.specs.Fields.{contents}
use Rattle.otlp_protobuf.specs.inner.Views.{fields_data}
use Rattle.otlp_protobuf.proofs.scan.next_content.Given as goal

abbrev pub invariant-loop-field : goal.invariant-loop-field
invariant-loop-field l =
    contents l.number (fields_data l.rest) ≡ contents l.number (fields_data l.fn.rest)

abbrev pub decreases-loop-field : goal.decreases-loop-field
decreases-loop-field l = length (fields_data l.rest)
