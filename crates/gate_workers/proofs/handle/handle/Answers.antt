use Rattle.gate_workers.proofs.handle.handle.Goals as goal

pub returns-in-Lift : goal.returns-in-Lift
returns-in-Lift g c =
    rw (c.in-Lift.is, c.without_batch-in-Lift.ensures.response)
    (c.lift.ensures, c.without_batch-in-Lift.ensures.batch)
