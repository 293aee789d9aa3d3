use Rattle.std.proofs.Common.{◌≡◌, ◌≤◌, ◌^◌, length}
use Rattle.otlp_protobuf.specs.Wire.{varint, varint_from}
use Rattle.otlp_protobuf.proofs.wire.long_varint.Given as goal

abbrev pub invariant-loop-rest : goal.invariant-loop-rest
invariant-loop-rest l = record {
  low : l.unit ≤ 2 ^ 63;
  same : varint_from l.unit l.sum l.rest ≡ varint l.bytes;
}

abbrev pub decreases-loop-rest : goal.decreases-loop-rest
decreases-loop-rest l = length l.rest
