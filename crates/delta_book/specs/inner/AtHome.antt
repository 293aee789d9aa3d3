-- Points that some history accepted, and the pending points of a series.
use Rattle.std.specs.Prelude.{◌≡◌, ◌&&◌, List, filter}
use Rattle.std.specs.declared.option.Option.{Option}
use Rattle.series_id.specs.Identity.{Identity}
use Rattle.metric_events.specs.DataPoint.{DataPoint}
use Rattle.metric_events.specs.History.{History}
use Rattle.metric_events.specs.Points.{points, is_home}
use Rattle.metric_events.specs.Series.{is_of, merged}
use Rattle.metric_events.specs.Legal.{IsLegal}
use Rattle.metric_events.specs.declared.accepted.Accepted.{Accepted}

-- the accepted points of some legal history
abbrev pub AreAccepted : List Accepted → Type 0
AreAccepted qs = (E : History) × (IsLegal E × (qs ≡ points E))

-- the pending points of series x
abbrev pub home_points : Identity → List Accepted → List Accepted
home_points x qs = filter (λ a. is_of x a && is_home a.place) qs

-- these points as one
abbrev pub home_point : List Accepted → Identity → Option DataPoint
home_point qs x = merged x (home_points x qs)
