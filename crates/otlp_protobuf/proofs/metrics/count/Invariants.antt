use Rattle.std.proofs.Common.{◌≡◌, ◌+◌, ◌-◌, ◌^◌, ◌<◌, length, min}
use Rattle.otlp_protobuf.specs.Wire.{fields}
use Rattle.otlp_protobuf.specs.Fields.{contents}
use Rattle.otlp_protobuf.specs.inner.Views.{fields_data}
use Rattle.otlp_protobuf.proofs.metrics.count.Given as goal

abbrev pub invariant-loop-found : goal.invariant-loop-found
invariant-loop-found l = record {
  few : l.found < 2 ^ 64;
  same : min (l.found + length (contents 1 (fields_data l.rest))) (2 ^ 64 - 1)
      ≡ min (length (contents 1 (fields l.bytes))) (2 ^ 64 - 1);
}

abbrev pub decreases-loop-found : goal.decreases-loop-found
decreases-loop-found l = length (contents 1 (fields_data l.rest))
