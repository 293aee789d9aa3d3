use Rattle.otlp_protobuf.proofs.StreamLemmas.{sum_added}
use Rattle.otlp_protobuf.proofs.metrics.add_sum.Goals as goal

pub returns : goal.returns
returns c = rw (← c.in-Some.ensures, sum_added _ _ _ _, ← c.sum_stream-sum.ensures) c.points.ensures
