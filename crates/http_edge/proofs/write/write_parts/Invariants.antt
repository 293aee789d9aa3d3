use Rattle.std.proofs.Common.{◌≡◌, take}
use Rattle.std.specs.List.{flat_map}
use Rattle.http_edge.specs.inner.WriteBuffer.{Passes}
use Rattle.http_edge.proofs.write.write_parts.Given as goal

abbrev pub invariant-loop-part : goal.invariant-loop-part
invariant-loop-part g l = record {
  passes : Passes (g.K.Sink.contents l.fn.sink) (g.K.Sink.contents l.sink) 0 l.buffer
      (flat_map (λ p. p.now) (take l.part-index l.parts));
  well : g.K.Sink.failures l.sink ≡ g.K.Sink.failures l.fn.sink;
}
