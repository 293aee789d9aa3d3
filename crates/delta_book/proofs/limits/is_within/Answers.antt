use Rattle.std.proofs.Common.{◌∙◌, sym, ap}
use Rattle.metric_events.specs.Rows.{add_rows, fits}
use Rattle.delta_book.proofs.limits.is_within.Goals as goal

pub returns-in-Sum : goal.returns-in-Sum
returns-in-Sum c = c.is_sum_within.ensures c.in-Sum.monotonic
    ∙ ap (λ k. fits k (add_rows c.args.row.now c.args.more.now)) (sym c.in-Sum.is)

pub returns-in-Histogram : goal.returns-in-Histogram
returns-in-Histogram c = c.is_histogram_within.ensures c.in-Histogram.bounds
    ∙ ap (λ k. fits k (add_rows c.args.row.now c.args.more.now)) (sym c.in-Histogram.is)
