use Rattle.std.proofs.Common.{◌≤◌, ◌-◌, length, take}
use Rattle.http_edge.specs.inner.Body.{body_state, Reaches}
use Rattle.http_edge.proofs.body.Body.feed.Given as goal

abbrev pub invariant-steps : goal.invariant-steps
invariant-steps l = record {
  within : l.at ≤ length l.piece;
  reaches : Reaches (body_state l.fn.self) (body_state l.self) (take l.at l.piece);
}

abbrev pub decreases-steps : goal.decreases-steps
decreases-steps l = length l.piece - l.at
