use Rattle.std.proofs.Common.{◌≡◌, None, option_map, length}
use Rattle.otlp_protobuf.specs.Fields.{gathered, newer}
use Rattle.otlp_protobuf.specs.inner.Views.{payload_data, fields_data}
use Rattle.otlp_protobuf.proofs.scan.last_of.Given as goal

abbrev pub invariant-loop-field : goal.invariant-loop-field
invariant-loop-field l = gathered (newer l.number) (option_map payload_data l.found)
    (fields_data l.rest) ≡ gathered (newer l.number) None (fields_data l.fields)

abbrev pub decreases-loop-field : goal.decreases-loop-field
decreases-loop-field l = length (fields_data l.rest)
