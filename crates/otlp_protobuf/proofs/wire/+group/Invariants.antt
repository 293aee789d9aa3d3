use Rattle.std.proofs.Common.{◌≡◌}
use Rattle.otlp_protobuf.specs.Wire.{group_from}
use Rattle.otlp_protobuf.proofs.wire.+group.Given as goal

abbrev pub decreases-group : goal.decreases-group
decreases-group l = l.levels

abbrev pub invariant-loop-left : goal.invariant-loop-left
invariant-loop-left l =
    group_from l.left l.levels l.number l.rest ≡ group_from l.fn.left l.levels l.number l.fn.bytes

abbrev pub decreases-loop-left : goal.decreases-loop-left
decreases-loop-left l = l.left
