use Rattle.std.proofs.Common.{◌≡◌, List, length, ℕ}
use Rattle.otlp_protobuf.specs.Fields.{contents}
use Rattle.otlp_protobuf.specs.inner.Runs.{others}
use Rattle.otlp_protobuf.specs.inner.RunViews.{Sees}
use Rattle.otlp_protobuf.specs.inner.Views.{fields_data}
use Rattle.otlp_protobuf.proofs.others.next_unlike.Given as goal

abbrev pub invariant-loop-field : goal.invariant-loop-field
invariant-loop-field l = record {
  field : others l.number (fields_data l.rest) ≡ others l.number (fields_data l.fn.rest);
  seen : (known all : List (List ℕ))
      → Sees known l.fn.seen (contents l.number (fields_data l.fn.rest)) all
      → Sees known l.seen (contents l.number (fields_data l.rest)) all;
}

abbrev pub decreases-loop-field : goal.decreases-loop-field
decreases-loop-field l = length (fields_data l.rest)
