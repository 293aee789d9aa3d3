use Rattle.std.proofs.Common.{◌≡◌, take}
use Rattle.metric_events.proofs.points.with_point.Given as goal

abbrev pub invariant-loop-each : goal.invariant-loop-each
invariant-loop-each l = l.list.items ≡ take l.each-index l.points
