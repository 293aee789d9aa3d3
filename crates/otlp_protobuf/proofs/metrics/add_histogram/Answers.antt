use Rattle.otlp_protobuf.proofs.StreamLemmas.{histogram_added}
use Rattle.otlp_protobuf.proofs.metrics.add_histogram.Goals as goal

pub returns : goal.returns
returns c = rw (← c.in-Some.ensures, histogram_added _ _ _ _, ← c.histogram_stream-stream.ensures)
    c.points.ensures
