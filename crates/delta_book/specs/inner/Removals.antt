-- Cells of which some may represent no point, while points of a batch are removed.
use Rattle.std.specs.Prelude.{◌≡◌, ℕ, true, ◌⊎◌, List, ◌++◌, map}
use Rattle.std.specs.List.{list_any}
use Rattle.series_id.specs.Identity.{Identity}
use Rattle.metric_events.specs.DataPoint.{DataPoint}
use Rattle.metric_events.specs.Points.{admitted, is_among}
use Rattle.metric_events.specs.declared.accepted.Accepted.{Accepted}
use Rattle.series_cell.specs.Cells.{CellView}
use Rattle.delta_book.specs.Tables.{id_of}
use Rattle.delta_book.specs.inner.Batches.{is_point_of}
use Rattle.delta_book.specs.inner.Tables.{HasPoint, IsTable}

-- one of these points is of the series
abbrev pub IsListed : Identity → List DataPoint → Type 0
IsListed x ps = list_any (is_point_of x) ps ≡ true

-- cells that represent these points; one that represents none is of a series of the batch
pub record AreCellsFor (cs : List CellView) (qs : List Accepted) (ps : List DataPoint)
    : Type 0 where
  pub table : IsTable cs qs
  pub some : (x : Identity) → is_among x (map id_of cs) ≡ true → HasPoint x qs ⊎ IsListed x ps

-- the new cells are of the same series
abbrev pub AreOfSame : List CellView → List CellView → Type 0
AreOfSame old new = map id_of new ≡ map id_of old

-- these are pending points of the batch, in cells of which some may represent no point
abbrev pub HasPart : List CellView → ℕ → List DataPoint → Type 0
HasPart cs b ps =
    (s : List ℕ) × ((before : List Accepted)
    × ((after : List Accepted) × IsTable cs (before ++ (map (admitted b s) ps ++ after))))

-- the new cells are without these points of a batch, and are as many
abbrev pub RemovesPart : List CellView → List CellView → ℕ → List DataPoint → Type 0
RemovesPart old new b ps =
    (s : List ℕ) (before after : List Accepted)
    → IsTable old (before ++ (map (admitted b s) ps ++ after)) → IsTable new (before ++ after)
