use Rattle.gate_workers.proofs.response.Response.write.Goals as goal

pub returns-in-None-clause-sent : goal.returns-in-None-clause-sent
returns-in-None-clause-sent g c = rw (← c.self.view_is, c.in-None.is)
    (rw (c.kind-kind.ensures.name, c.text-text.ensures.text) at c.write_response.ensures.text)

pub returns-in-Some-clause-sent : goal.returns-in-Some-clause-sent
returns-in-Some-clause-sent g c = rw (← c.self.view_is, c.in-Some.is)
    (rw (c.kind-kind.ensures.name, c.name.ensures.name, c.text-text.ensures.text) at
    c.write_response-in-Some.ensures.text)
