use Rattle.gate_workers.specs.inner.Shown.{shown}
use Rattle.gate_workers.proofs.Pacing.{paced}
use Rattle.gate_workers.proofs.service.serve_with.Goals as goal

pub returns-in-Asks-clause-paced : goal.returns-in-Asks-clause-paced
returns-in-Asks-clause-paced g c =
    rw c.status.ensures (paced g.K.Store.gives g.P.Pace.reaches
    (g.S.Source.remaining c.args.reader.now) (shown c.in-Asks.ask)
    _ _ _ _ _ c.handle-response.result.response c.handle-response.result.batch
    c.write-written.result c.close-end.result
    (rw c.in-Asks.is at c.listen.ensures.paced) c.handle-response.ensures
    c.close-end.ensures)
