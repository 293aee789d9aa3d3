-- How the cells go from one round to the next.
use Rattle.std.specs.Prelude.{◌≡◌, ◌<◌, List, [], ◌∷◌}
use Rattle.metric_events.specs.declared.opened_series.OpenedSeries.{OpenedSeries}
use Rattle.series_cell.specs.Cells.{CellView, Stands, HandsOn, end_of, opened_with}

-- nothing is in flight, and there is a point
pub record Carries (c : CellView) : Type 0 where
  pub nothing : c.cut ≡ 0
  pub some : 0 < end_of c

abbrev pub AllCarry : List CellView → Type 0
AllCarry [] = Unit {0}
AllCarry (c ∷ cs) = Carries c × AllCarry cs

-- each cell hands on one of these series
abbrev pub AllHandOn : List CellView → List OpenedSeries → Type 0
AllHandOn [] [] = Unit {0}
AllHandOn (c ∷ cs) (s ∷ ss) = HandsOn c s × AllHandOn cs ss
AllHandOn cs ss = ⊥

-- the cell represents what the next round begins with of a series
pub record BeginsWith (c : CellView) (s : OpenedSeries) : Type 0 where
  pub stands : Stands c (opened_with s)
  pub id : c.id ≡ s.series

-- each cell, of one of these series
abbrev pub AllOpened : List CellView → List OpenedSeries → Type 0
AllOpened [] [] = Unit {0}
AllOpened (c ∷ cs) (s ∷ ss) = BeginsWith c s × AllOpened cs ss
AllOpened cs ss = ⊥
