use Rattle.std.proofs.Common.{◌∷◌}
use Rattle.gate_workers.proofs.worker.flusher_loop.Goals as goal

pub loop-preserved : goal.loop-preserved
loop-preserved g c = (
  c.flush_turn-turn.result ∷ c.loop.invariant.0,
  (
    c.loop.orders,
    c.loop.keeper,
    c.loop.uplink,
    c.loop.pace,
    c.loop.invariant.1,
    c.in-Some-next.order,
    c.in-Some-next.ensures,
    c.flush_turn-turn.ensures.turn,
    c.flush_turn-turn.ensures.paced,
    c.end.ensures,
  ),
)
