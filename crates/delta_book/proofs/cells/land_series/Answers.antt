use Rattle.std.proofs.Common.{ap, get_or}
use Rattle.metric_events.specs.Points.{landed}
use Rattle.metric_events.specs.Series.{of_series}
use Rattle.series_cell.proofs.Points.{moves_landed}
use Rattle.delta_book.proofs.Tables.{cell_changed, cell_absent}
use Rattle.delta_book.proofs.Searching.{cells_ascend}
use Rattle.delta_book.proofs.cells.land_series.Goals as goal

pub returns-in-Some : goal.returns-in-Some
returns-in-Some c = λ f qs h k p.
    cell_changed (landed f c.args.place) (moves_landed f c.args.place) c.args.cells.now qs
    c.in-Some.i (get_or c.args.cells.now c.in-Some.i c.index-cells-i.result) c.land_one.new.cell
    c.args.series.now h c.in-Some.ensures.0
    (ap (get_or c.args.cells.now c.in-Some.i) c.index-cells-i.is) c.in-Some.ensures.1
    c.land_one.ensures.same.id
    (λ s. c.land_one.ensures.stands f (of_series c.args.series.now qs) s k p)

pub returns-in_default : goal.returns-in_default
returns-in_default c = λ f qs h k p. cell_absent (landed f c.args.place) c.args.cells.now qs
    c.args.series.now h (c.in_default.ensures (cells_ascend c.args.cells.now qs h))
