use Rattle.std.proofs.Common.{◌≡◌, length}
use Rattle.otlp_protobuf.specs.Wire.{fields}
use Rattle.otlp_protobuf.specs.Fields.{contents, gathered}
use Rattle.otlp_protobuf.specs.Points.{no_number, take_number}
use Rattle.otlp_protobuf.specs.inner.Runs.{others}
use Rattle.otlp_protobuf.specs.inner.RunViews.{messages_of, Sees}
use Rattle.otlp_protobuf.specs.inner.Views.{fields_data}
use Rattle.otlp_protobuf.proofs.sums.gather_number.Given as goal

abbrev pub invariant-loop-field : goal.invariant-loop-field
invariant-loop-field l = record {
  said : gathered take_number l.point (others 7 (fields_data l.rest))
      ≡ gathered take_number no_number (others 7 (fields l.bytes));
  seen : Sees (messages_of l.known) l.seen (contents 7 (fields_data l.rest))
      (contents 7 (fields l.bytes));
}

abbrev pub decreases-loop-field : goal.decreases-loop-field
decreases-loop-field l = length (others 7 (fields_data l.rest))
