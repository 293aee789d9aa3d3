use Rattle.std.proofs.Common.{◌∷◌, ◌++◌, subst}
use Rattle.metric_events.specs.Points.{admitted}
use Rattle.series_cell.specs.Cells.{Stands}
use Rattle.delta_book.specs.inner.Parts.{part_of}
use Rattle.delta_book.proofs.cells.remove_part.Goals as goal

pub returns-in-Point-clause-stands : goal.returns-in-Point-clause-stands
returns-in-Point-clause-stands c = λ before after h.
    c.remove.ensures.stands before after
    (subst (λ q. Stands c.args.cell.now
    (before ++ admitted c.args.number c.args.cell.now.owner (part_of q c.args.point.now)
    ∷ after)) c.in-Point.is h)
