use Rattle.std.proofs.Common.{map, sym, ap, ◌∙◌}
use Rattle.series_id.specs.Sorting.{pair_of as pair_in}
use Rattle.json_points.specs.inner.StreamViews.{stream_data}
use Rattle.otlp_read.proofs.LookupLemmas.{series_is}
use Rattle.json_points.proofs.SetLemmas.{of_stream}
use Rattle.json_points.proofs.lookup.is_series.Goals as goal

pub returns : goal.returns
returns c =
    let within = of_stream c.args.series.now (stream_data c.args.stream)
    (c.is_in_metric.ensures.only c.if-not-is_in_metric.false) in
    let kind = c.is_same.ensures.0 c.if-not-is_same.false in
    record {
      only = λ limits same.
          series_is (stream_data c.args.stream) c.args.kind.now _ c.args.series.now limits within
          (sym c.kind.ensures ∙ kind) (c.are_pairs.ensures.only same
          ∙ ap (map pair_in) (c.pairs.ensures ∙ c.attrs.ensures));
    }
