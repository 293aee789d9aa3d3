use Rattle.otlp_read.specs.Metrics.{add_profile}
use Rattle.otlp_protobuf.proofs.metrics.add_profile.Goals as goal

pub returns-in_ok-add_histogram : goal.returns-in_ok-add_histogram
unfolding add_profile
returns-in_ok-add_histogram c =
    rw (← c.if-is_single.ensures, ← c.in_ok-add_sum.ensures) c.in_ok-add_histogram.ensures
