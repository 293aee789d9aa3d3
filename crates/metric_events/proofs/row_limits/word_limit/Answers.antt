use Rattle.metric_events.proofs.row_limits.word_limit.Goals as goal

pub returns-in-Sum : goal.returns-in-Sum
returns-in-Sum c = rw c.in-Sum.is (c.sum_limit.ensures c.in-Sum.monotonic)

pub returns-in-Histogram : goal.returns-in-Histogram
returns-in-Histogram c = rw c.in-Histogram.is (c.histogram_limit.ensures c.in-Histogram.bounds)
