use Rattle.std.proofs.Common.{List, ◌∷◌, ◌-◌}
use Rattle.gateway_serve.specs.Rounds.{ServedRound, IsRun}
use Rattle.gateway_serve.specs.inner.Rounds.{AreServed}
use Rattle.gateway_serve.proofs.ServedRounds.{AreThrough}
use Rattle.gateway_serve.proofs.rounds.serve_rounds.Given as goal

abbrev pub invariant-loop-left : goal.invariant-loop-left
invariant-loop-left g l =
    (latest : ServedRound) × (earlier : List ServedRound)
    × AreServed (goal.F-step g) l.fn.serve_round (latest ∷ earlier) l.serve_round
    × IsRun l.options.connections l.options.round (l.options.connections - l.left) latest earlier
    l.book l.sums
    × AreThrough l.options.connections l.options.round l.book.opening.round l.left

abbrev pub decreases-loop-left : goal.decreases-loop-left
decreases-loop-left g l = l.left
