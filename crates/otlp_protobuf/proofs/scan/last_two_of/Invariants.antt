use Rattle.std.proofs.Common.{◌≡◌, None, option_map, length}
use Rattle.otlp_protobuf.specs.Fields.{gathered, newer}
use Rattle.otlp_protobuf.specs.inner.Views.{payload_data, fields_data}
use Rattle.otlp_protobuf.proofs.scan.last_two_of.Given as goal

abbrev pub invariant-loop-field : goal.invariant-loop-field
invariant-loop-field l = record {
  one : gathered (newer l.one) (option_map payload_data l.first) (fields_data l.rest)
      ≡ gathered (newer l.one) None (fields_data l.fields);
  other : gathered (newer l.other) (option_map payload_data l.second) (fields_data l.rest)
      ≡ gathered (newer l.other) None (fields_data l.fields);
}

abbrev pub decreases-loop-field : goal.decreases-loop-field
decreases-loop-field l = length (fields_data l.rest)
