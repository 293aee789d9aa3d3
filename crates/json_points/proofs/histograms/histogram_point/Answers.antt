use Rattle.std.proofs.Common.{◌∙◌, refl, sym, subst}
use Rattle.metric_events.specs.PointFaults.{IsHistogram}
use Rattle.otlp_read.specs.Histograms.{histogram_point, kind_in}
use Rattle.otlp_read.proofs.PointLemmas.{kind_of_known, kind_is_histogram, allowed}
use Rattle.json_points.specs.inner.Nodes.{data_at}
use Rattle.json_points.proofs.histograms.histogram_point.Goals as goal

pub shared_histogram-requires : goal.shared_histogram-requires
unfolding kind_in
shared_histogram-requires c =
    subst IsHistogram (kind_of_known _ _ _ _ (sym c.in_ok-series.ensures ∙ c.in-Some-4.is))
    (kind_is_histogram (data_at c.args.node.now)
    _ (rw (← c.field.ensures) (sym c.in_ok-kind.ensures ∙ c.in-Some-2.is)))

pub returns-in_default-2 : goal.returns-in_default-2
unfolding histogram_point kind_in
returns-in_default-2 c =
    rw (← c.in-Some.ensures, ← c.field.ensures, ← c.in_ok-kind.ensures, c.in_default-2.is) refl

pub returns-in_default-3 : goal.returns-in_default-3
unfolding histogram_point kind_in
returns-in_default-3 c =
    rw (
      ← c.in-Some.ensures,
      ← c.field.ensures,
      ← c.in_ok-kind.ensures,
      c.in-Some-2.is,
      ←
          c.field-2.ensures,
      ← c.in_ok-buckets.ensures,
      c.in_default-3.is,
    ) refl

pub returns-in_default-4 : goal.returns-in_default-4
unfolding histogram_point kind_in
returns-in_default-4 c =
    rw (
      ← c.in-Some.ensures,
      ← c.field.ensures,
      ← c.in_ok-kind.ensures,
      c.in-Some-2.is,
      ←
          c.field-2.ensures,
      ← c.in_ok-buckets.ensures,
      c.in-Some-3.is,
      ← c.field-found.ensures,
      ←
          c.in_ok-series.ensures,
      c.in_default-4.is,
    ) refl

pub returns : goal.returns
unfolding histogram_point kind_in
returns c =
    let e = allowed c.shared_histogram.result _ _ _ c.shared_histogram.ensures.value
    c.shared_histogram.ensures.none c.shared_histogram.ensures.fault c.in_ok-point.ensures.ok in
    rw (
      ← c.in-Some.ensures,
      ← c.field.ensures,
      ← c.in_ok-kind.ensures,
      c.in-Some-2.is,
      ←
          c.field-2.ensures,
      ← c.in_ok-buckets.ensures,
      c.in-Some-3.is,
      ← c.field-found.ensures,
      ←
          c.in_ok-series.ensures,
      c.in-Some-4.is,
    ) (c.in_ok-point.ensures.point ∙ e)
