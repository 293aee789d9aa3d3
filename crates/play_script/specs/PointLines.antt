-- The points of an `admit` line: four words each.
use Rattle.std.specs.Prelude.{ℕ, ℤ, List, [], ◌∷◌, if◌then◌else◌, Some, None, false, Option}
use Rattle.series_id.specs.Identity.{Identity}
use Rattle.series_id.specs.declared.kinds.Kind.TheVariants.{Sum}
use Rattle.metric_events.specs.Senders.{is_sender_name}
use Rattle.metric_events.specs.DataPoint.{DataPoint}
use Rattle.metric_events.specs.NewPoints.{point_of_sum}
use Rattle.metric_events.specs.PointFaults.{sum_fault}
use Rattle.metric_events.specs.declared.point.PointFault.{PointFault}
use Rattle.play_script.specs.Numbers.{number, value}

-- a point as four words
pub record PointWords : Type 0 where
  pub name : List ℕ
  pub start : ℕ
  pub end : ℕ
  pub value : ℤ

-- a name that a sender may have
abbrev pub name_of : List ℕ → Option (List ℕ)
name_of word = if is_sender_name word then Some word else None

-- the point of four words, where each of them can be read
abbrev pub with_words : Option (List ℕ) → Option ℕ → Option ℕ → Option ℤ → Option PointWords
with_words (Some name) (Some start) (Some end) (Some value) =
    Some (record { name = name; start = start; end = end; value = value })
with_words name start end value = None

abbrev pub point_of_words : List ℕ → List ℕ → List ℕ → List ℕ → Option PointWords
point_of_words a b c d = with_words (name_of a) (number b) (number c) (value d)

-- a point before others, where all are points
abbrev pub with_point : Option PointWords → Option (List PointWords) → Option (List PointWords)
with_point (Some point) (Some points) = Some (point ∷ points)
with_point point points = None

-- the points of these words
abbrev pub point_words : List (List ℕ) → Option (List PointWords)
point_words [] = Some []
point_words (a ∷ b ∷ c ∷ d ∷ words) = with_point (point_of_words a b c d) (point_words words)
point_words words = None

-- the series of a name: the plain sum with this metric name, all else empty
abbrev pub series_named : List ℕ → Identity
series_named name = record {
  resource = [];
  scope_name = [];
  scope_version = [];
  scope_attrs = [];
  name = name;
  unit = [];
  kind = Sum false;
  attrs = [];
}

-- the point that the words make
abbrev pub point_of : PointWords → DataPoint
point_of p = point_of_sum (series_named p.name) p.start p.end p.value

-- why the point can't be made
abbrev pub fault_of : PointWords → Option PointFault
fault_of p = sum_fault (Sum false) p.start p.end p.value

abbrev pub or_else : Option PointFault → Option PointFault → Option PointFault
or_else (Some fault) other = Some fault
or_else None other = other

-- the fault of the first point that can't be made
abbrev pub first_fault : List PointWords → Option PointFault
first_fault [] = None
first_fault (p ∷ ps) = or_else (fault_of p) (first_fault ps)
