use Rattle.std.proofs.Common.{refl, subst}
use Rattle.json_points.specs.inner.Slots.{IsList}
use Rattle.json_points.proofs.WalkLemmas.{each_done}
use Rattle.json_points.proofs.reader.each.Goals as goal

pub returns-in-None : goal.returns-in-None
returns-in-None g c ds has = each_done (g.O.Object.adds c.args.above) ds
    _ _ (subst (λ o. IsList o ds) c.in-None.is has) refl
