-- Which points of a post are taken by the time at which they end.
use Rattle.std.specs.Prelude.{Bool, ◌&&◌, nat_le, List}
use Rattle.std.specs.List.{filter}
use Rattle.metric_events.specs.DataPoint.{DataPoint}
use Rattle.book_desk.specs.declared.window.Window.{Window}

-- the point ends within the window
abbrev pub is_within : Window → DataPoint → Bool
is_within w p = nat_le w.from p.span.end && nat_le p.span.end w.until

-- the points that do, in order
abbrev pub within : Window → List DataPoint → List DataPoint
within w points = filter (is_within w) points
