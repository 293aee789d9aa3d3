use Rattle.std.proofs.Common.{◌≡◌, None, Some, Ok, refl, ap, subst, ◌∙◌}
use Rattle.otlp_read.specs.declared.place.Place.TheVariants.{DataField, DataPoints}
use Rattle.otlp_read.specs.Containers.{object_in, objects}
use Rattle.json_points.specs.inner.Nodes.{data_at}
use Rattle.json_points.specs.inner.Slots.{slot_data}
use Rattle.json_points.proofs.MetricLemmas.{no_part, part_found}
use Rattle.json_points.proofs.metrics.add_part.Goals as goal

pub returns-in_default : goal.returns-in_default
returns-in_default c = (
  None,
  no_part c.args.name.now (data_at c.args.node.now)
      (subst (λ o. object_in DataField o ≡ Ok None) c.field.ensures
      (c.in_ok-whole.ensures DataField ∙ ap (λ o. Ok (slot_data o)) c.in_default.is)),
  refl,
)

pub returns : goal.returns
returns c =
    let list = c.in_ok-list.ensures in (
      Some (record { whole = data_at c.in-Some.whole; points = list.0 }),
      part_found c.args.name.now (data_at c.args.node.now) (data_at c.in-Some.whole) list.0
          (subst (λ o. object_in DataField o ≡ Ok (Some (data_at c.in-Some.whole))) c.field.ensures
          (c.in_ok-whole.ensures DataField ∙ ap (λ o. Ok (slot_data o)) c.in-Some.is))
          (subst (λ o. objects DataPoints o ≡ Ok list.0) c.field-2.ensures (list.2 DataPoints)),
      c.add_foreign.ensures list.0 list.1,
    )
