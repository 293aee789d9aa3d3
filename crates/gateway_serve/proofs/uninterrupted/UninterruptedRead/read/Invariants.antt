-- The buffer keeps its length, and an interrupted read consumes nothing.
use Rattle.std.proofs.Common.{◌≡◌, length}
use Rattle.std.specs.Io.KnownBytes.{Keeps}
use Rattle.gateway_serve.proofs.uninterrupted.UninterruptedRead.read.Given as goal

abbrev pub invariant-loop : goal.invariant-loop
invariant-loop g l =
    (length l.buf ≡ length l.fn.buf)
    × Keeps (g.S.Read.remaining l.fn.self.stream) (g.S.Read.remaining l.self.stream)
