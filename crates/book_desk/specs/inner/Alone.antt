-- A reading of points alone, and a point alone.
use Rattle.std.specs.Prelude.{◌≡◌, List, [], ◌∷◌}
use Rattle.series_id.specs.Identity.{Identity}
use Rattle.metric_events.specs.DataPoint.{DataPoint}
use Rattle.otlp_read.specs.Tallies.{Tally}

-- these points, none that is foreign, and no metric counted
abbrev pub alone : List DataPoint → Tally
alone points = record { points = points; foreign = 0; metrics = 0 }

-- there is one point, of this series
abbrev pub IsAlone : Identity → List DataPoint → Type 0
IsAlone x points = (p : DataPoint) × (points ≡ p ∷ []) × (p.series ≡ x)
