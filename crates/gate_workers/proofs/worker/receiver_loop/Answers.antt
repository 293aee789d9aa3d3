use Rattle.std.proofs.Common.{◌∷◌}
use Rattle.gate_workers.proofs.worker.receiver_loop.Goals as goal

pub loop-preserved : goal.loop-preserved
loop-preserved g c = (
  c.serve.result ∷ c.loop.invariant.0,
  (
    c.loop.connections,
    _,
    c.loop.invariant.1,
    c.in-Some-next.connection,
    c.in-Some-next.ensures,
    c.serve.ensures.serves,
    c.serve.ensures.served,
  ),
)
