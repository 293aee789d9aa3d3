use Rattle.http_edge.proofs.MachineLemmas.{starts_chunked, starts_empty}
use Rattle.http_edge.proofs.machine.first_phase.Goals as goal

pub returns-in-Chunked : goal.returns-in-Chunked
returns-in-Chunked c = rw c.in-Chunked.is starts_chunked

pub returns-then-n-eq0 : goal.returns-then-n-eq0
returns-then-n-eq0 c = rw (c.in-Sized.is, c.if-n-eq0.true) starts_empty
