use Rattle.std.proofs.Common.{refl, subst}
use Rattle.std.proofs.lemmas.Result.{on_ok_weaker}
use Rattle.json_points.specs.inner.Slots.{IsList}
use Rattle.json_points.proofs.WalkLemmas.{point_done}
use Rattle.json_points.proofs.metrics.points.Goals as goal

pub returns-in-None : goal.returns-in-None
returns-in-None g c ds has = point_done (g.S.PointStream.reads c.args.stream) ds
    _ _ (subst (λ o. IsList o ds) c.in-None.is has) refl

pub returns-in-Some : goal.returns-in-Some
returns-in-Some g c = on_ok_weaker c.points_of.result
    (λ h ds has. h ds (subst (λ o. IsList o ds) c.in-Some.is has)) c.points_of.ensures
