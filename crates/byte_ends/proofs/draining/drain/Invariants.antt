use Rattle.std.proofs.Common.{◌≡◌}
use Rattle.byte_ends.proofs.Thrown.{SoFar}
use Rattle.byte_ends.proofs.draining.drain.Given as goal

abbrev pub invariant-loop-left : goal.invariant-loop-left
invariant-loop-left g l = SoFar (g.S.Source.remaining l.fn.source) (g.S.Source.remaining l.source)
    l.most l.left × (g.S.Source.failures l.source ≡ g.S.Source.failures l.fn.source)

abbrev pub decreases-loop-left : goal.decreases-loop-left
decreases-loop-left g l = l.left
