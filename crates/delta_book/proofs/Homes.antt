-- What is at home of a cell, as a flush sends it.
use Rattle.std.proofs.Common.{◌≡◌, ℕ, List, filter, ap, sym, ◌∙◌, subst, Some, None}
use Rattle.series_id.specs.Identity.{Identity, row_length}
use Rattle.metric_events.specs.Interval.{Interval}
use Rattle.metric_events.specs.DataPoint.{IsMerged}
use Rattle.metric_events.specs.History.{History}
use Rattle.metric_events.specs.Points.{points, is_home}
use Rattle.metric_events.specs.Series.{of_series, hull, row_sum}
use Rattle.metric_events.specs.Standing.{stands}
use Rattle.metric_events.specs.Legal.{IsLegal}
use Rattle.metric_events.specs.declared.accepted.Accepted.{Accepted}
use Rattle.metric_events.proofs.Fits.{merged_is, chosen_fit, made_of, made_of_filter, made_points}
use Rattle.series_cell.specs.Cells.{CellView, Stands, home_hull}
use Rattle.series_cell.proofs.Reading.{tells}
use Rattle.delta_book.specs.inner.AtHome.{home_point, home_points}
use Rattle.delta_book.proofs.Adding.{home_points_are}
use Rattle.delta_book.proofs.Sending.{merged_some, merged_none}

own_hull : (c : CellView) (qs : List Accepted) → Stands c (of_series c.id qs)
    → home_hull c ≡ hull (home_points c.id qs)
own_hull c qs h =
    (tells c (of_series c.id qs) h).home_span ∙ ap hull (sym (home_points_are c.id qs))

pub home_none : (c : CellView) (qs : List Accepted) → Stands c (of_series c.id qs)
    → home_hull c ≡ None → home_point qs c.id ≡ None
home_none c qs h e = merged_none c.id (home_points c.id qs) (sym (own_hull c qs h) ∙ e)

pub home_some : (c : CellView) (qs : List Accepted) (span : Interval) (row : List ℕ) (x : Identity)
    → Stands c (of_series c.id qs) → home_hull c ≡ Some span → row ≡ c.stored → x ≡ c.id
    → home_point qs c.id ≡ Some (record { series = x; span = span; row = row })
home_some c qs span row x h e r s =
    merged_some c.id (home_points c.id qs) span (sym (own_hull c qs h) ∙ e)
    ∙ (ap (λ w. Some (record { series = c.id; span = span; row = w }))
    (ap (row_sum (row_length c.id.kind)) (home_points_are c.id qs)
    ∙ (sym (tells c (of_series c.id qs) h).stored ∙ sym r))
    ∙ ap (λ (y : Identity). Some (record { series = y; span = span; row = row })) (sym s))

pub home_point_is : (c : CellView) (E : History) (span : Interval) (row : List ℕ) (x : Identity)
    → IsLegal E → Stands c (of_series c.id (points E)) → home_hull c ≡ Some span → row ≡ c.stored
    → x ≡ c.id → IsMerged (record { series = x; span = span; row = row })
home_point_is c E span row x l h e r s =
    let k = tells c (of_series c.id (points E)) h in
    let p = merged_is c.id (filter (stands is_home) (of_series c.id (points E))) span
    (made_of_filter c.id (stands is_home) (of_series c.id (points E))
    (made_of c.id (points E) (made_points E l))) (sym k.home_span ∙ e)
    (chosen_fit E l c.id (stands is_home)) in
    subst (λ (y : Identity). IsMerged (record { series = y; span = span; row = row })) (sym s)
    (subst (λ w. IsMerged (record { series = c.id; span = span; row = w })) (sym (r ∙ k.stored)) p)
