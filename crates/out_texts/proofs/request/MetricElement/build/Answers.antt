use Rattle.out_texts.specs.Request.{metric_value}
use Rattle.out_texts.proofs.request.MetricElement.build.Goals as goal

pub returns-in-Sum : goal.returns-in-Sum
unfolding metric_value
returns-in-Sum c =
    let metric = c.text-metric.ensures _ (c.text.ensures _ c.new.ensures) in
    let points = c.value-data-in-Sum.ensures
    _ (c.value-data.ensures _ (c.value.ensures _ c.new-2.ensures)) in
    let built = c.finish.ensures _ (c.object.ensures _ _ metric points) in
    rw (← c.kind.ensures, c.in-Sum.is)
    (rw (
      c.from.ensures,
      c.from-2.ensures,
      c.in_ok-values.ensures,
      c.as_str.ensures,
      c.name.ensures,
      c.as_str-2.ensures,
      c.unit.ensures,
      c.from-in-Sum.ensures,
    ) at built)

pub returns-in-Histogram : goal.returns-in-Histogram
unfolding metric_value
returns-in-Histogram c =
    let metric = c.text-metric.ensures _ (c.text.ensures _ c.new.ensures) in
    let points = c.value-data.ensures _ (c.value.ensures _ c.new-2.ensures) in
    let built = c.finish-in-Histogram.ensures _ (c.object-in-Histogram.ensures _ _ metric points) in
    rw (← c.kind.ensures, c.in-Histogram.is)
    (rw (
      c.from.ensures,
      c.from-2.ensures,
      c.in_ok-values.ensures,
      c.as_str.ensures,
      c.name.ensures,
      c.as_str-2.ensures,
      c.unit.ensures,
    ) at built)
