use Rattle.std.proofs.Common.{◌≡◌, [], length, arith, ap, subst}
use Rattle.json_points.specs.inner.Slots.{IsList}
use Rattle.json_points.proofs.metrics.count.Goals as goal

pub returns-in-None : goal.returns-in-None
returns-in-None c ds has =
    let none : ds ≡ [] = subst (λ o. IsList o ds) c.in-None.is has in
    omega (arith, ap length none)

pub returns-in-Some : goal.returns-in-Some
returns-in-Some c ds has = c.count_of.ensures ds (subst (λ o. IsList o ds) c.in-Some.is has)
