use Rattle.std.proofs.Common.{◌≡◌, length}
use Rattle.otlp_protobuf.specs.Fields.{contents, joined, whole_at}
use Rattle.otlp_protobuf.specs.inner.Views.{fields_data, whole_data}
use Rattle.otlp_protobuf.proofs.scan.whole_at.Given as goal

abbrev pub invariant-loop-part : goal.invariant-loop-part
invariant-loop-part l = joined (whole_data l.found) (contents l.number (fields_data l.rest))
    ≡ whole_at l.number l.bytes

abbrev pub decreases-loop-part : goal.decreases-loop-part
decreases-loop-part l = length (contents l.number (fields_data l.rest))
