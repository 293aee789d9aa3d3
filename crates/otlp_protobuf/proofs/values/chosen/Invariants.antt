use Rattle.std.proofs.Common.{◌≡◌, option_map, length}
use Rattle.otlp_protobuf.specs.Fields.{gathered}
use Rattle.otlp_protobuf.specs.Values.{newest, chosen}
use Rattle.otlp_protobuf.specs.inner.Views.{field_data, fields_data}
use Rattle.otlp_protobuf.proofs.values.chosen.Given as goal

abbrev pub invariant-loop-field : goal.invariant-loop-field
invariant-loop-field l =
    gathered newest (option_map field_data l.found) (fields_data l.rest) ≡ chosen l.bytes

abbrev pub decreases-loop-field : goal.decreases-loop-field
decreases-loop-field l = length (fields_data l.rest)
