-- How the points of a post become parts.
use Rattle.std.specs.Prelude.{◌≡◌, ℕ, ◌+◌, ◌<◌, ◌==◌, if◌then◌else◌, Option, Some, None}
use Rattle.std.specs.Prelude.{List, [], ◌∷◌, get_or, length}
use Rattle.metric_events.specs.DataPoint.{DataPoint}
use Rattle.book_desk.specs.declared.part.Part.{Part}
use Rattle.book_desk.specs.Homes.{home}

-- the points of a part
abbrev pub points_in : Option Part → List DataPoint
points_in None = []
points_in (Some part) = part.body.points

-- their positions in the post
abbrev pub places_in : Option Part → List ℕ
places_in None = []
places_in (Some part) = part.places.items

-- the points whose home is the k-th of so many books, in order
abbrev pub chosen : (books k : ℕ) → List DataPoint → List DataPoint
chosen books k [] = []
chosen books k (p ∷ ps) =
    if home books p.series == k then p ∷ chosen books k ps else chosen books k ps

-- their positions, counted from i
abbrev pub places : (books k i : ℕ) → List DataPoint → List ℕ
places books k i [] = []
places books k i (p ∷ ps) =
    if home books p.series == k then i ∷ places books k (i + 1) ps else places books k (i + 1) ps

-- the part of the k-th book has its points, and their positions
abbrev pub IsSplit : (books k : ℕ) → Option Part → List DataPoint → Type 0
IsSplit books k part points =
    (points_in part ≡ chosen books k points) × (places_in part ≡ places books k 0 points)

-- each part has the points of its book, and their positions
abbrev pub AreSplit : List (Option Part) → List DataPoint → Type 0
AreSplit parts points =
    (k : ℕ) (d : Option Part) → k < length parts
    → IsSplit (length parts) k (get_or parts k d) points

-- a part is of this sender, and has points
abbrev pub IsFrom : List ℕ → Option Part → Type 0
IsFrom sender None = Unit {0}
IsFrom sender (Some part) = (part.body.sender ≡ sender) × (0 < length part.body.points)
