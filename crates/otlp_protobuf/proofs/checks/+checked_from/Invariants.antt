use Rattle.std.proofs.Common.{◌≡◌}
use Rattle.otlp_protobuf.specs.Checks.{checked_from}
use Rattle.otlp_protobuf.proofs.checks.+checked_from.Given as goal

abbrev pub decreases-checked_from : goal.decreases-checked_from
decreases-checked_from l = l.levels

abbrev pub invariant-loop-left : goal.invariant-loop-left
invariant-loop-left l = checked_from l.left l.levels l.message l.rest
    ≡ checked_from l.fn.left l.levels l.message l.fn.bytes

abbrev pub decreases-loop-left : goal.decreases-loop-left
decreases-loop-left l = l.left
