-- When the points of a post end.
use Rattle.std.specs.Prelude.{ℕ, ◌≤◌, List, map, Option}
use Rattle.std.specs.List.{All, Contains, flat_map}
use Rattle.metric_events.specs.DataPoint.{DataPoint}
use Rattle.book_desk.specs.declared.end_range.EndRange.{EndRange}
use Rattle.book_desk.specs.declared.part.Part.{Part}
use Rattle.book_desk.specs.Splits.{points_in}

-- when a point ends
abbrev pub end_of : DataPoint → ℕ
end_of p = p.span.end

-- when the points of all parts end
abbrev pub ends_of : List (Option Part) → List ℕ
ends_of parts = map end_of (flat_map points_in parts)

-- the least of these ends, and the greatest
pub record IsRangeOf (ends : List ℕ) (range : EndRange) : Type 0 where
  pub least : Contains ends range.least
  pub none_before : All (λ end. range.least ≤ end) ends
  pub greatest : Contains ends range.greatest
  pub none_after : All (λ end. end ≤ range.greatest) ends
