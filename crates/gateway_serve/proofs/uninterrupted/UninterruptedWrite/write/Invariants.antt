-- An interrupted write appends nothing.
use Rattle.std.specs.Io.KnownBytes.{Keeps}
use Rattle.gateway_serve.proofs.uninterrupted.UninterruptedWrite.write.Given as goal

abbrev pub invariant-loop : goal.invariant-loop
invariant-loop g l = Keeps (g.S.Write.contents l.fn.self.stream) (g.S.Write.contents l.self.stream)
