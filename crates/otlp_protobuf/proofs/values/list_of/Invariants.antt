use Rattle.std.proofs.Common.{◌≡◌, length}
use Rattle.otlp_protobuf.specs.Fields.{gathered, so_far}
use Rattle.otlp_protobuf.specs.Values.{take_list, list_of}
use Rattle.otlp_protobuf.specs.inner.Views.{fields_data, whole_data}
use Rattle.otlp_protobuf.proofs.values.list_of.Given as goal

abbrev pub invariant-loop-field : goal.invariant-loop-field
invariant-loop-field l =
    so_far (gathered take_list (whole_data l.found) (fields_data l.rest)) ≡ list_of l.bytes

abbrev pub decreases-loop-field : goal.decreases-loop-field
decreases-loop-field l = length (fields_data l.rest)
