use Rattle.std.proofs.Common.{◌≡◌, length}
use Rattle.otlp_protobuf.specs.Fields.{contents, joined, whole_at}
use Rattle.otlp_protobuf.specs.inner.Views.{fields_data, whole_data}
use Rattle.otlp_protobuf.proofs.metrics.parts_of.Given as goal

abbrev pub invariant-loop-field : goal.invariant-loop-field
invariant-loop-field l = record {
  gauge : joined (whole_data l.gauge) (contents 5 (fields_data l.rest)) ≡ whole_at 5 l.metric;
  sum : joined (whole_data l.sum) (contents 7 (fields_data l.rest)) ≡ whole_at 7 l.metric;
  histogram : joined (whole_data l.histogram) (contents 9 (fields_data l.rest))
      ≡ whole_at 9 l.metric;
  exponential : joined (whole_data l.exponential) (contents 10 (fields_data l.rest))
      ≡ whole_at 10 l.metric;
  summary : joined (whole_data l.summary) (contents 11 (fields_data l.rest)) ≡ whole_at 11 l.metric;
}

abbrev pub decreases-loop-field : goal.decreases-loop-field
decreases-loop-field l = length (fields_data l.rest)
