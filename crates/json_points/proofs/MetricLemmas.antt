-- A metric with one data field, and one whose points are all foreign.
use Rattle.std.proofs.Common.{◌≡◌, ℕ, suc, ◌+◌, ◌-◌, ◌^◌, ◌<◌, min, [], ◌∷◌, List, length, Bool}
use Rattle.std.proofs.Common.{true, false, Option, Some, None, Result, Ok, refl, ap, sym, ◌∙◌}
use Rattle.std.proofs.Common.{arith}
use Rattle.std.specs.Prelude.{codes, if◌then◌else◌}
use Rattle.serde_json.specs.Data.{Data}
use Rattle.otlp_read.specs.declared.place.Place.TheVariants.{DataField, DataPoints}
use Rattle.otlp_read.specs.Containers.{◌>>=◌, objects, object_in}
use Rattle.otlp_read.specs.Fields.{field}
use Rattle.otlp_read.specs.Histograms.{histogram_point_in}
use Rattle.otlp_read.specs.Metrics.{Part, Parts, part_in, part, parts, is_single, add_all}
use Rattle.otlp_read.specs.Metrics.{add_profile, add_parts, metric}
use Rattle.otlp_read.specs.Streams.{Scope, stream_in, sum_stream_in}
use Rattle.otlp_read.specs.Sums.{sum_point_in}
use Rattle.otlp_read.specs.Tallies.{Tally, plus, add_foreign, add_metric, each_point}

pub part_absent : (name : List ℕ) (d : Data) → field name d ≡ None → part name d ≡ Ok None
unfolding part object_in
part_absent name d h = rw h refl

pub no_part : (name : List ℕ) (d : Data) → object_in DataField (field name d) ≡ Ok None
    → part name d ≡ Ok None
unfolding part
no_part name d h = rw h refl

pub part_found : (name : List ℕ) (d s : Data) (ds : List Data)
    → object_in DataField (field name d) ≡ Ok (Some s)
    → objects DataPoints (field (codes "dataPoints") s) ≡ Ok ds
    → part name d ≡ Ok (Some (record { whole = s; points = ds }))
unfolding part
part_found name d s ds h points = rw (h, points) refl

pub sum_alone : (scope : Option Scope) (d s : Data) (ds : List Data) (t : Tally)
    → field (codes "gauge") d ≡ None → field (codes "histogram") d ≡ None
    → field (codes "exponentialHistogram") d ≡ None → field (codes "summary") d ≡ None
    → object_in DataField (field (codes "sum") d) ≡ Ok (Some s)
    → objects DataPoints (field (codes "dataPoints") s) ≡ Ok ds
    → metric scope d t ≡ Ok (each_point (sum_point_in (sum_stream_in scope d s)) ds (add_metric t))
unfolding metric parts add_parts add_profile is_single
sum_alone scope d s ds t gauge histogram exponential summary sum points =
    rw (
      part_absent (codes "gauge") d gauge,
      part_found (codes "sum") d s ds sum points,
      part_absent
          (codes "histogram") d histogram,
      part_absent (codes "exponentialHistogram") d exponential,
      part_absent (codes "summary") d summary,
    ) refl

pub histogram_alone : (scope : Option Scope) (d h : Data) (ds : List Data) (t : Tally)
    → field (codes "gauge") d ≡ None → field (codes "sum") d ≡ None
    → field (codes "exponentialHistogram") d ≡ None → field (codes "summary") d ≡ None
    → object_in DataField (field (codes "histogram") d) ≡ Ok (Some h)
    → objects DataPoints (field (codes "dataPoints") h) ≡ Ok ds
    → metric scope d t
    ≡ Ok (each_point (histogram_point_in (stream_in scope d h)) ds (add_metric t))
unfolding metric parts add_parts add_profile is_single
histogram_alone scope d h ds t gauge sum exponential summary histogram points =
    rw (
      part_absent (codes "gauge") d gauge,
      part_absent (codes "sum") d sum,
      part_found
          (codes "histogram") d h ds histogram points,
      part_absent (codes "exponentialHistogram") d
          exponential,
      part_absent (codes "summary") d summary,
    ) refl

either : {A : Type 0} (b : Bool) (x : A) → (if b then x else x) ≡ x
either true x = refl
either false x = refl

no_profile : (scope : Option Scope) (d : Data) (gauge exponential summary : Option Part) (t : Tally)
    → add_profile scope d (record {
      gauge = gauge;
      sum = None;
      histogram = None;
      exponential =
          exponential;
      summary = summary;
    }) t ≡ t
unfolding add_profile
no_profile scope d gauge exponential summary t =
    either (is_single (record {
      gauge = gauge;
      sum = None;
      histogram = None;
      exponential =
          exponential;
      summary = summary;
    })) t

pub foreign_alone : (scope : Option Scope) (d : Data) (g e s : Option Part) (t : Tally)
    → field (codes "sum") d ≡ None → field (codes "histogram") d ≡ None
    → part (codes "gauge") d ≡ Ok g → part (codes "exponentialHistogram") d ≡ Ok e
    → part (codes "summary") d ≡ Ok s
    → metric scope d t ≡ Ok (add_all s (add_all e (add_all g (add_metric t))))
unfolding metric parts add_parts
foreign_alone scope d g e s t sum histogram gauge exponential summary =
    rw (
      gauge,
      part_absent (codes "sum") d sum,
      part_absent (codes "histogram") d histogram,
      exponential,
      summary,
    )
    (ap (λ (u : Tally). Ok (add_all s (add_all e u)))
    (no_profile scope d g e s (add_all g (add_metric t))))

-- ---- foreign points

-- one more is counted
pub count_more : (k next : ℕ) (ds : List Data) (d : Data) (rest : List Data) (total : ℕ)
    → next ≡ min (k + 1) (2 ^ 64 - 1) → ds ≡ d ∷ rest → min (k + length ds) (2 ^ 64 - 1) ≡ total
    → min (next + length rest) (2 ^ 64 - 1) ≡ total
count_more k next ds d rest total step is so_far = let longer : length ds ≡ suc (length rest) =
    ap length is in omega arith

-- all are
pub count_done : (k : ℕ) (ds : List Data) (total : ℕ) → k < 2 ^ 64 → ds ≡ []
    → min (k + length ds) (2 ^ 64 - 1) ≡ total → k ≡ total
count_done k ds total few none so_far = let ended : length ds ≡ 0 = ap length none in omega arith

abbrev with_foreign : Tally → ℕ → Tally
with_foreign t f = record { points = t.points; foreign = f; metrics = t.metrics }

-- and they are added
pub foreign_counted : (n k f : ℕ) (t : Tally) → k ≡ min n (2 ^ 64 - 1)
    → f ≡ min (t.foreign + k) (2 ^ 64 - 1) → with_foreign t f ≡ add_foreign n t
foreign_counted n k f t counted added =
    let total : f ≡ plus t.foreign n = omega arith in
    ap (with_foreign t) total
