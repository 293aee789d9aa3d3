use Rattle.std.proofs.Common.{map, sym, ap, refl, ◌∙◌}
use Rattle.series_id.specs.Sorting.{pair_of as pair_in}
use Rattle.json_points.specs.inner.Slots.{slot_data}
use Rattle.json_points.specs.inner.MetricViews.{stream_of}
use Rattle.otlp_read.proofs.LookupLemmas.{series_is}
use Rattle.json_points.proofs.FollowLemmas.{series_said}
use Rattle.json_points.proofs.follow.is_said.Goals as goal

pub returns : goal.returns
returns c =
    let said = c.are_said.ensures.only c.if-not-are_said.false in
    record {
      only = λ limits same.
          series_said (stream_of c.args.series.now) c.args.kind.now (slot_data c.args.found.now)
          _ c.args.series.now said
          (series_is (stream_of c.args.series.now) c.args.kind.now _ c.args.series.now limits refl
          (sym c.kind.ensures ∙ c.is_same.ensures.0 same)
          (ap (map pair_in) (c.pairs.ensures ∙ c.attrs.ensures)));
    }
