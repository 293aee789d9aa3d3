use Rattle.std.proofs.Common.{◌≡◌, ◌∙◌, sym, ap, subst, map, take, true}
use Rattle.std.specs.List.{list_any}
use Rattle.metric_events.specs.Points.{is_in_flight, landed}
use Rattle.metric_events.specs.Series.{of_series}
use Rattle.metric_events.specs.Standing.{stands}
use Rattle.series_cell.proofs.Points.{moves_landed}
use Rattle.delta_book.specs.Tables.{AreCells}
use Rattle.delta_book.specs.inner.Tables.{on_series}
use Rattle.delta_book.proofs.Tables.{next_series, untouched, on_nil, holds_at}
use Rattle.delta_book.proofs.cells.end_in_cells.Goals as goal

pub loop-x-init : goal.loop-x-init
loop-x-init c =
    λ f qs h u k p. subst (AreCells c.args.cells.now) (sym (on_nil (landed f c.args.place) qs)) h

pub loop-x-preserved : goal.loop-x-preserved
loop-x-preserved c = λ f qs h u k p.
    let g = landed f c.args.place in
    let xs = c.args.series.now in
    let x = c.x-item.result in
    let there : list_any (stands (is_in_flight f)) (of_series x qs) ≡ true =
    holds_at (λ y. list_any (stands (is_in_flight f)) (of_series y qs)) xs c.loop-x.x-index x
    c.loop-x-test.true c.x-item.is k in
    next_series g (moves_landed f c.args.place) _ qs xs c.loop-x.x-index x u c.loop-x-test.true
    c.x-item.is
    (c.land_series.ensures f (map (on_series g (take c.loop-x.x-index xs)) qs)
    (c.loop-x.invariant f qs h u k p)
    (ap (list_any (stands (is_in_flight f)))
    (untouched g (moves_landed f c.args.place) qs xs c.loop-x.x-index x u c.loop-x-test.true
    c.x-item.is) ∙ there)
    p)
