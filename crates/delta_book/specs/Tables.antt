-- The cells of a book, one for each series that has an accepted point, in series order.
use Rattle.std.specs.Prelude.{◌≡◌, List, [], ◌∷◌, map}
use Rattle.series_id.specs.Identity.{Identity}
use Rattle.metric_events.specs.Points.{points}
use Rattle.metric_events.specs.Series.{of_series, series_in_order}
use Rattle.metric_events.specs.History.{History}
use Rattle.metric_events.specs.Legal.{IsLegal}
use Rattle.metric_events.specs.declared.accepted.Accepted.{Accepted}
use Rattle.series_cell.specs.Cells.{CellView, Stands}

abbrev pub id_of : CellView → Identity
id_of c = c.id

-- each cell represents the points of its series
abbrev pub AllStand : List CellView → List Accepted → Type 0
AllStand [] qs = Unit {0}
AllStand (c ∷ cs) qs = Stands c (of_series c.id qs) × AllStand cs qs

-- these are the cells of these points
pub record AreCells (cs : List CellView) (qs : List Accepted) : Type 0 where
  pub ids : map id_of cs ≡ series_in_order qs
  pub stand : AllStand cs qs

-- the cells of some legal history
abbrev pub AreBooked : List CellView → Type 0
AreBooked cs = (E : History) × (IsLegal E × AreCells cs (points E))
