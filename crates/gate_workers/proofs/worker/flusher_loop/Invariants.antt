use Rattle.std.proofs.Common.{List}
use Rattle.gate_workers.specs.declared.flush.Turn.{Turn}
use Rattle.gate_workers.specs.Worked.{AreMade}
use Rattle.gate_workers.proofs.worker.flusher_loop.Given as goal

abbrev pub invariant-loop : goal.invariant-loop
invariant-loop g l =
    (all : List Turn) × AreMade g.S.Orders.gives g.S.Order.TurnOrder.ends g.K.Store.gives
    g.U.Uplink.sends g.P.Pace.reaches l.max all l.fn.orders l.orders
    l.fn.keeper l.keeper l.fn.uplink l.uplink l.fn.pace l.pace
