use Rattle.std.proofs.Common.{◌≡◌, length}
use Rattle.otlp_protobuf.specs.Wire.{fields}
use Rattle.otlp_protobuf.specs.Fields.{contents, gathered, numbers}
use Rattle.otlp_protobuf.specs.Points.{no_histogram, take_histogram}
use Rattle.otlp_protobuf.specs.inner.Runs.{others}
use Rattle.otlp_protobuf.specs.inner.RunViews.{messages_of, Sees}
use Rattle.otlp_protobuf.specs.inner.SpotViews.{IsSpot}
use Rattle.otlp_protobuf.specs.inner.Views.{fields_data}
use Rattle.otlp_protobuf.proofs.histogram_gather.gather_histogram.Given as goal

abbrev pub invariant-loop-field : goal.invariant-loop-field
invariant-loop-field l = record {
  said : gathered take_histogram l.found (others 9 (fields_data l.rest))
      ≡ gathered take_histogram no_histogram (others 9 (fields l.bytes));
  seen : Sees (messages_of l.known) l.seen (contents 9 (fields_data l.rest))
      (contents 9 (fields l.bytes));
  buckets : IsSpot l.buckets (numbers 6 (others 9 (fields_data l.rest)))
      (numbers 6 (others 9 (fields l.bytes)));
  bounds : IsSpot l.bounds (numbers 7 (others 9 (fields_data l.rest)))
      (numbers 7 (others 9 (fields l.bytes)));
}

abbrev pub decreases-loop-field : goal.decreases-loop-field
decreases-loop-field l = length (others 9 (fields_data l.rest))
