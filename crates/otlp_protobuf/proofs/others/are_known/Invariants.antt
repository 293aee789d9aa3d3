use Rattle.std.proofs.Common.{length}
use Rattle.otlp_protobuf.specs.Wire.{fields}
use Rattle.otlp_protobuf.specs.Fields.{contents}
use Rattle.otlp_protobuf.specs.inner.Runs.{others}
use Rattle.otlp_protobuf.specs.inner.RunViews.{Sees, run_messages}
use Rattle.otlp_protobuf.specs.inner.Views.{fields_data}
use Rattle.otlp_protobuf.proofs.others.are_known.Given as goal

abbrev pub invariant-loop : goal.invariant-loop
invariant-loop l = Sees (run_messages l.known) l.seen (contents l.known.number (fields_data l.rest))
    (contents l.known.number (fields l.bytes))

abbrev pub decreases-loop : goal.decreases-loop
decreases-loop l = length (others l.known.number (fields_data l.rest))
