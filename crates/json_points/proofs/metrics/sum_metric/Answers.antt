use Rattle.std.proofs.Common.{◌≡◌, Ok, option_map, subst, ap, sym, ◌∙◌}
use Rattle.std.proofs.lemmas.Result.{on_ok_weaker}
use Rattle.otlp_read.specs.declared.place.Place.TheVariants.{DataField}
use Rattle.otlp_read.specs.Containers.{object_in}
use Rattle.otlp_read.specs.Streams.{sum_stream_in}
use Rattle.otlp_read.specs.Sums.{sum_point_in}
use Rattle.otlp_read.specs.Tallies.{Tally, tally, each_point}
use Rattle.json_points.specs.inner.Nodes.{data_at}
use Rattle.json_points.specs.inner.Slots.{slot_data}
use Rattle.json_points.specs.inner.MetricViews.{scope_data}
use Rattle.json_points.proofs.MetricLemmas.{sum_alone}
use Rattle.json_points.proofs.metrics.sum_metric.Goals as goal

pub returns : goal.returns
returns c =
    let other = c.has_no_foreign.ensures in
    let none = c.if-not-has_no_foreign.false in
    let there : object_in DataField (slot_data c.field.result)
    ≡ Ok (slot_data c.in_ok-sum.field-0) = c.in_ok-sum.ensures DataField in
    on_ok_weaker c.add_sum.result (λ h.
    sum_alone (option_map scope_data c.args.scope) (data_at c.args.node.now) (data_at c.in-Some.sum)
    h.0 (tally c.args.reader.now.out)
    (other.gauge none) c.requires (other.exponential none) (other.summary none)
    (subst (λ o. object_in DataField o ≡ Ok (slot_data c.in_ok-sum.field-0)) c.field.ensures there
    ∙ ap (λ o. Ok (slot_data o)) c.in-Some.is)
    h.1 ∙ ap (λ (t : Tally). Ok t) (sym
    (h.2 ∙ ap (each_point (sum_point_in
    (sum_stream_in (option_map scope_data c.args.scope) (data_at c.args.node.now)
    (data_at c.in-Some.sum))) h.0) c.add_metric.ensures))) c.add_sum.ensures
