use Rattle.std.proofs.Common.{◌≡◌, [], List, true, refl, ap, subst, ◌∙◌}
use Rattle.std.specs.List.{list_all}
use Rattle.otlp_read.specs.Containers.{is_object, objects}
use Rattle.json_points.specs.inner.Nodes.{data_at}
use Rattle.json_points.specs.inner.Slots.{slot_data}
use Rattle.json_points.proofs.WalkLemmas.{objects_ok, no_objects}
use Rattle.json_points.proofs.containers.objects.Goals as goal

pub returns-in_default : goal.returns-in_default
returns-in_default c =
    ([], refl, λ place. ap (λ o. objects place (slot_data o)) c.in_default.is ∙ no_objects place)

pub returns-then-are_objects : goal.returns-then-are_objects
returns-then-are_objects c =
    let f = c.in-Some-items.ensures.found in
    let h = c.in-Some-items-2.ensures.found in
    let same : f.0 ≡ h.0 = cc (f.1, h.1) in (
      h.0,
      h.2,
      λ place.
          ap (λ o. objects place (slot_data o)) c.in-Some.is
          ∙ objects_ok place (data_at c.in-Some.node) h.0 h.1
          (subst (λ ds. list_all is_object ds ≡ true) same
          (c.are_objects.ensures c.if-are_objects.true f.0 f.2)),
    )
