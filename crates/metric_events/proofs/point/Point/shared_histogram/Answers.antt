use Rattle.std.proofs.Common.{rules, ap, ◌∙◌}
use Rattle.series_id.specs.Identity.{Identity}
use Rattle.metric_events.proofs.HistogramRows.{histogram_made}
use Rattle.metric_events.proofs.point.Point.shared_histogram.Goals as goal

pub new-requires : goal.new-requires
new-requires c =
    histogram_made c.args.series c.kind-kind.result.now c.args.start c.args.end c.args.count
    c.args.sum c.deref.result.now c.in_ok-span.span c.in_ok-span.row
    (search rules) c.requires
    c.ranges.end.fits c.ranges.count.fits
    (c.kind-kind.ensures ∙ ap (λ (x : Identity). x.kind) c.as_series.ensures)
    c.in_ok-span.ensures.none c.in_ok-span.ensures.span c.in_ok-span.ensures.row
