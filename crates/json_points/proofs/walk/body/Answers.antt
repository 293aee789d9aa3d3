use Rattle.std.proofs.Common.{◌≡◌, Ok, subst}
use Rattle.std.proofs.lemmas.Result.{on_ok_weaker}
use Rattle.otlp_read.specs.declared.place.Place.TheVariants as place
use Rattle.otlp_read.specs.Containers.{objects, object_in}
use Rattle.json_points.specs.inner.Nodes.{data_at}
use Rattle.json_points.specs.inner.Slots.{slot_data}
use Rattle.json_points.proofs.TextLemmas.{body_read}
use Rattle.json_points.proofs.walk.body.Goals as goal

pub returns : goal.returns
returns c =
    let list = c.in_ok-list.ensures in
    on_ok_weaker c.each.result (λ h.
    body_read (data_at c.args.node.now) list.0
    _ _ (subst (λ o. objects place.ResourceMetrics o ≡ Ok list.0) c.field.ensures
    (list.2 place.ResourceMetrics)) (h list.0 list.1)) c.each.ensures
