use Rattle.std.proofs.Common.{List, [], Some}
use Rattle.gate_workers.specs.declared.service.Served.{Served}
use Rattle.gate_workers.specs.Worked.{AreConnectionsServed}
use Rattle.gate_workers.proofs.worker.receiver_loop.Given as goal

abbrev pub invariant-loop : goal.invariant-loop
invariant-loop g l =
    (all : List Served) × AreConnectionsServed g.S.Connections.gives
    g.S.Connection.Connection.serves g.K.Store.gives g.P.Pace.reaches all l.fn.connections
    l.connections
    (l.fn.keeper, l.fn.pace, Some []) (l.keeper, l.pace, l.cache)
