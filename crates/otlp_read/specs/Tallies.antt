-- What has been read so far.
use Rattle.std.specs.Prelude.{ℕ, ◌+◌, ◌-◌, ◌^◌, min, List, [], ◌∷◌, ◌++◌, Option, Some, None}
use Rattle.serde_json.specs.Data.{Data}
use Rattle.metric_events.specs.DataPoint.{DataPoint}
use Rattle.otlp_read.specs.declared.reading.Reading.{Reading}

-- the points of the profile in order, the count of foreign points and that of metrics
pub record Tally : Type 0 where
  pub points : List DataPoint
  pub foreign : ℕ
  pub metrics : ℕ

-- the program's reading as a tally
abbrev pub tally : Reading → Tally
tally r = record { points = r.points; foreign = r.foreign; metrics = r.metrics }

-- nothing has been read
abbrev pub nothing : Tally
nothing = record { points = []; foreign = 0; metrics = 0 }

-- a count of 64 bits stops at its largest value, which no request reaches that fits a memory
abbrev pub plus : ℕ → ℕ → ℕ
plus a b = min (a + b) (2 ^ 64 - 1)

-- this many more foreign points
abbrev pub add_foreign : ℕ → Tally → Tally
add_foreign n t = record { points = t.points; foreign = plus t.foreign n; metrics = t.metrics }

-- one more metric
abbrev pub add_metric : Tally → Tally
add_metric t = record { points = t.points; foreign = t.foreign; metrics = plus t.metrics 1 }

-- one more point: of the profile, or foreign
abbrev pub add_point : Option DataPoint → Tally → Tally
add_point None t = add_foreign 1 t
add_point (Some p) t =
    record { points = t.points ++ p ∷ []; foreign = t.foreign; metrics = t.metrics }

-- the points of a data field in order
unfoldable pub each_point : (Data → Option DataPoint) → List Data → Tally → Tally
each_point reads [] t = t
each_point reads (d ∷ ds) t = each_point reads ds (add_point (reads d) t)
