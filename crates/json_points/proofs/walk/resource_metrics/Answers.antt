use Rattle.std.proofs.Common.{◌≡◌, Ok, subst}
use Rattle.std.proofs.lemmas.Result.{on_ok_weaker}
use Rattle.otlp_read.specs.declared.place.Place.TheVariants as place
use Rattle.otlp_read.specs.Containers.{objects, object_in}
use Rattle.json_points.specs.inner.Nodes.{data_at}
use Rattle.json_points.specs.inner.Slots.{slot_data}
use Rattle.json_points.proofs.TextLemmas.{resource_read}
use Rattle.json_points.proofs.walk.resource_metrics.Goals as goal

pub returns : goal.returns
returns c =
    let list = c.in_ok-list.ensures in
    let resource = c.in_ok-resource.resource in
    on_ok_weaker c.each.result (λ h.
    resource_read (data_at c.args.node.now) (slot_data resource) list.0 _ _
    (subst (λ o. object_in place.Resource o ≡ Ok (slot_data resource)) c.field.ensures
    (c.in_ok-resource.ensures place.Resource))
    (subst (λ o. objects place.ScopeMetrics o ≡ Ok list.0) c.field-2.ensures
    (list.2 place.ScopeMetrics))
    (rw (
      ← c.inner.ensures,
      ← c.in_ok-attributes.ensures,
      ← c.as_ref.ensures.value,
      ←
          c.resource_in.ensures,
    ) (h list.0 list.1))) c.each.ensures
