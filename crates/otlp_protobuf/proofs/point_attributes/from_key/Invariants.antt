use Rattle.std.proofs.Common.{length}
use Rattle.otlp_protobuf.specs.inner.Views.{fields_data}
use Rattle.otlp_protobuf.proofs.point_attributes.from_key.Given as goal

abbrev pub decreases-loop : goal.decreases-loop
decreases-loop l = length (fields_data l.rest)
