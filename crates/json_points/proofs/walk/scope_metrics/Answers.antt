use Rattle.std.proofs.Common.{◌≡◌, Ok, subst}
use Rattle.std.proofs.lemmas.Result.{on_ok_weaker}
use Rattle.otlp_read.specs.declared.place.Place.TheVariants as place
use Rattle.otlp_read.specs.Containers.{objects, object_in}
use Rattle.json_points.specs.inner.Nodes.{data_at}
use Rattle.json_points.specs.inner.Slots.{slot_data}
use Rattle.json_points.proofs.TextLemmas.{scope_read}
use Rattle.json_points.proofs.walk.scope_metrics.Goals as goal

pub returns : goal.returns
returns c =
    let list = c.in_ok-list.ensures in
    let scope = c.in_ok-scope.scope in
    on_ok_weaker c.each.result (λ h.
    scope_read _ (data_at c.args.node.now) (slot_data scope) list.0 _ _
    (subst (λ o. object_in place.Scope o ≡ Ok (slot_data scope)) c.field.ensures
    (c.in_ok-scope.ensures place.Scope))
    (subst (λ o. objects place.Metrics o ≡ Ok list.0) c.field-2.ensures (list.2 place.Metrics))
    (rw (
      ← c.inner.ensures,
      ← c.in_ok-attributes.ensures,
      ← c.as_ref.ensures.value,
      ←
          c.scope_in-scope.ensures,
    ) (h list.0 list.1))) c.each.ensures
