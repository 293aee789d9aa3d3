use Rattle.std.proofs.Common.{rules, sym, subst}
use Rattle.series_id.specs.Identity.{Identity}
use Rattle.metric_events.specs.DataPoint.{IsMerged}
use Rattle.metric_events.proofs.HistogramRows.{histogram_made}
use Rattle.metric_events.proofs.point.Point.histogram.Goals as goal

pub new-requires-2 : goal.new-requires-2
new-requires-2 c =
    subst (λ (x : Identity). IsMerged
    (record { series = x; span = c.in_ok-span.span; row = c.in_ok-span.row }))
    (sym c.in_ok-series.ensures.same)
    (histogram_made c.args.series c.kind-kind.result.now c.args.start c.args.end c.args.count
    c.args.sum c.deref.result.now c.in_ok-span.span c.in_ok-span.row (search rules) c.requires
    c.ranges.end.fits c.ranges.count.fits c.kind-kind.ensures c.in_ok-span.ensures.none
    c.in_ok-span.ensures.span c.in_ok-span.ensures.row)
