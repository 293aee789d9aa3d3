use Rattle.std.proofs.Common.{sym, subst, map}
use Rattle.metric_events.specs.Points.{landed}
use Rattle.metric_events.specs.declared.place.Place.TheVariants.{Home, Acknowledged, Dropped}
use Rattle.series_cell.specs.Cells.{Stands}
use Rattle.delta_book.proofs.Tables.{flush_is}
use Rattle.delta_book.proofs.cells.land_one.Goals as goal

pub returns-in-Acknowledged-clause-stands : goal.returns-in-Acknowledged-clause-stands
returns-in-Acknowledged-clause-stands c = λ f qs h k p.
    subst (λ q. Stands c.acknowledge.new.self (map (landed f q) qs)) (sym c.in-Acknowledged.is)
    (subst (λ g. Stands c.acknowledge.new.self (map (landed g Acknowledged) qs))
    (flush_is c.args.cell.now qs f h k) (c.acknowledge.ensures.stands qs h))

pub returns-in-Dropped-clause-stands : goal.returns-in-Dropped-clause-stands
returns-in-Dropped-clause-stands c = λ f qs h k p.
    subst (λ q. Stands c.discard.new.self (map (landed f q) qs)) (sym c.in-Dropped.is)
    (subst (λ g. Stands c.discard.new.self (map (landed g Dropped) qs))
    (flush_is c.args.cell.now qs f h k) (c.discard.ensures.stands qs h))

pub returns-in-Home-clause-stands : goal.returns-in-Home-clause-stands
returns-in-Home-clause-stands c = λ f qs h k p.
    subst (λ q. Stands c.set_down.new.self (map (landed f q) qs)) (sym c.in-Home.is)
    (subst (λ g. Stands c.set_down.new.self (map (landed g Home) qs))
    (flush_is c.args.cell.now qs f h k) (c.set_down.ensures.stands qs h))
