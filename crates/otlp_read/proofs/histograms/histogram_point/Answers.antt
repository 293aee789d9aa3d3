use Rattle.std.proofs.Common.{◌∙◌, sym, subst}
use Rattle.serde_json.specs.View.{view}
use Rattle.metric_events.specs.PointFaults.{IsHistogram}
use Rattle.otlp_read.specs.Histograms.{histogram_point, kind_in}
use Rattle.otlp_read.proofs.PointLemmas.{kind_of_known, kind_is_histogram, allowed}
use Rattle.otlp_read.proofs.histograms.histogram_point.Goals as goal

pub shared_histogram-requires : goal.shared_histogram-requires
unfolding kind_in
shared_histogram-requires c =
    subst IsHistogram (kind_of_known _ _ _ _ (sym c.in_ok-series.ensures ∙ c.in-Some-4.is))
    (kind_is_histogram (view c.args.value.now)
    _ (rw (← c.in-Some.ensures.bounds) (sym c.in_ok-kind.ensures ∙ c.in-Some-2.is)))

pub returns : goal.returns
unfolding histogram_point kind_in
returns c =
    let e = allowed c.shared_histogram.result _ _ _ c.shared_histogram.ensures.value
    c.shared_histogram.ensures.none c.shared_histogram.ensures.fault c.in_ok-point.ensures.ok in
    rw (
      ← c.in-Some.ensures.fields,
      ← c.in-Some.ensures.bounds,
      ← c.in_ok-kind.ensures,
      c.in-Some-2.is,
      ← c.in-Some.ensures.buckets,
      ← c.in_ok-buckets.ensures,
      c.in-Some-3.is,
      ←
          c.in-Some.ensures.attributes,
      ← c.in_ok-series.ensures,
      c.in-Some-4.is,
    )
    (c.in_ok-point.ensures.point ∙ e)
