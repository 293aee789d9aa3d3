use Rattle.std.proofs.Common.{length, ◌-◌, ◌/◌}
use Rattle.otlp_protobuf.specs.inner.Runs.{IsRun}
use Rattle.otlp_protobuf.proofs.runs.run_at.Given as goal

abbrev pub invariant-loop-more : goal.invariant-loop-more
invariant-loop-more l = IsRun (l.key / 8) l.size l.count l.bytes

abbrev pub decreases-loop-more : goal.decreases-loop-more
decreases-loop-more l = length l.bytes - l.size
