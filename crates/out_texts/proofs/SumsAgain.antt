-- Reading a metric of sums that was written.
use Rattle.std.proofs.Common.{◌≡◌, ◌≤◌, Bool, true, List, length, map, Some, None, Ok, refl, sym}
use Rattle.std.proofs.Common.{ap, ◌∙◌}
use Rattle.std.specs.Prelude.{codes}
use Rattle.std.specs.List.{AllByRecursion, list_all}
use Rattle.std.proofs.lemmas.Bool.{le-leb}
use Rattle.serde_json.specs.Data.{Data, boolean, number, unsigned, array, object, no_members}
use Rattle.serde_json.specs.Data.{member}
use Rattle.serde_json.specs.View.{items_of}
use Rattle.series_id.specs.declared.limits.TheConstants.{MAX_TEXT}
use Rattle.series_id.specs.declared.kinds.Kind.{Kind}
use Rattle.series_id.specs.declared.kinds.Kind.TheVariants.{Sum}
use Rattle.series_id.specs.Identity.{Identity}
use Rattle.series_id.proofs.Refusals.{each_more}
use Rattle.metric_events.specs.DataPoint.{DataPoint, IsMerged}
use Rattle.otlp_read.specs.Fields.{field, text_in, truth_in, is_delta}
use Rattle.otlp_read.specs.Containers.{is_object, objects, object_in}
use Rattle.otlp_read.specs.Streams.{Scope, Stream, stream_in, sum_stream_in}
use Rattle.otlp_read.specs.Sums.{sum_point, sum_point_in}
use Rattle.otlp_read.specs.Tallies.{Tally, add_metric}
use Rattle.otlp_read.specs.Metrics.{part, parts, is_single, add_profile, add_parts, metric}
use Rattle.out_texts.specs.Points.{point_of_kind, point_value}
use Rattle.out_texts.specs.Request.{metric_of_kind}
use Rattle.out_texts.specs.Back.{point_read}
use Rattle.out_texts.proofs.Grouping.{Adds, each_point_again, elements_of_items}
use Rattle.out_texts.proofs.PointsAgain.{stream_of, sum_again}

-- a point of a stream, of a kind
pub record IsOf (above : Stream) (sort : Kind) (p : DataPoint) : Type 0 where
  pub made : IsMerged p
  pub stream : stream_of p.series ≡ above
  pub kind : p.series.kind ≡ sort

abbrev pub stream_below : Scope → Identity → Stream
stream_below scope x = record { scope = scope; name = x.name; unit = x.unit }

abbrev sum_data : Bool → List Data → Data
sum_data m ds = object (
    member (codes "aggregationTemporality") (number (unsigned 1)) (
    member (codes "dataPoints") (array (items_of ds)) (
    member (codes "isMonotonic") (boolean m) no_members)))

sum_parts : (x : Identity) (m : Bool) (ds : List Data) → list_all is_object ds ≡ true
    → parts (metric_of_kind (Sum m) x ds)
    ≡ Ok (record {
      gauge = None;
      sum =
          Some (record { whole = sum_data m ds; points = ds });
      histogram = None;
      exponential =
          None;
      summary = None;
    })
unfolding parts part field object_in objects
sum_parts x m ds h = rw (elements_of_items ds, h) refl

sum_stream : (x : Identity) (scope : Scope) (m : Bool) (ds : List Data) → length x.name ≤ MAX_TEXT
    → length x.unit ≤ MAX_TEXT
    → sum_stream_in (Some scope) (metric_of_kind (Sum m) x ds) (sum_data m ds)
    ≡ Some (record { stream = stream_below scope x; monotonic = m })
unfolding sum_stream_in stream_in field text_in truth_in is_delta
sum_stream x scope m ds name unit =
    rw (le-leb (length x.name) MAX_TEXT name, le-leb (length x.unit) MAX_TEXT unit) refl

sum_point_again : (stream : Stream) (m : Bool) (p : DataPoint) → IsOf stream (Sum m) p
    → sum_point_in (Some (record { stream = stream; monotonic = m })) (point_value p)
    ≡ Some (point_read p)
unfolding point_value
sum_point_again stream m p h =
    ap (λ (kind : Kind). sum_point (record { stream = stream; monotonic = m })
    (point_of_kind kind p)) h.kind
    ∙ ap (λ (above : Stream). sum_point (record { stream = above; monotonic = m })
    (point_of_kind (Sum m) p)) (sym h.stream)
    ∙ sum_again p m h.kind h.made

pub sum_metric_again : (x : Identity) (scope : Scope) (m : Bool) (ps : List DataPoint) (t : Tally)
    → length x.name ≤ MAX_TEXT → length x.unit ≤ MAX_TEXT
    → list_all is_object (map point_value ps) ≡ true
    → AllByRecursion (IsOf (stream_below scope x) (Sum m)) ps
    → Adds ps t (metric (Some scope) (metric_of_kind (Sum m) x (map point_value ps)) t)
unfolding metric add_parts add_profile is_single
sum_metric_again x scope m ps t name unit are h = (
  (add_metric t).metrics,
  rw (sum_parts x m (map point_value ps) are, sum_stream x scope m (map point_value ps) name unit)
      (ap (λ (s : Tally). Ok s) (each_point_again
      (sum_point_in (Some (record { stream = stream_below scope x; monotonic = m })))
      point_value ps
      (each_more (IsOf (stream_below scope x) (Sum m))
      (λ p. sum_point_in (Some (record { stream = stream_below scope x; monotonic = m }))
      (point_value p) ≡ Some (point_read p)) (sum_point_again (stream_below scope x) m) ps
      h) (add_metric t))),
)
