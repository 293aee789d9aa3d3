-- Reading a metric of histograms that was written.
use Rattle.std.proofs.Common.{◌≡◌, ℕ, ℤ, pos, negsuc, suc, ◌+◌, ◌-◌, ◌<◌, ◌≤◌, ◌^◌, Bool, true}
use Rattle.std.proofs.Common.{false, leb, cond, List, [], ◌∷◌, length, map, sum, Option, Some, None}
use Rattle.std.proofs.Common.{Ok, refl, sym, ap, ◌∙◌, subst, arith}
use Rattle.std.specs.Prelude.{decimal, codes, slice_index, ◌==◌}
use Rattle.std.specs.List.{AllByRecursion, list_all}
use Rattle.std.proofs.lemmas.Bool.{le-leb, le-ltb, leb-true, and_parts, eq-eqb}
use Rattle.std.proofs.lemmas.List.{map-id}
use Rattle.std.proofs.lemmas.List.Elements.{recursion_from_All}
use Rattle.serde_json.specs.Data.{Data, number, unsigned, string, array, object, no_members, member}
use Rattle.serde_json.specs.Find.{of_integer}
use Rattle.serde_json.specs.View.{items_of}
use Rattle.series_id.specs.declared.limits.TheConstants.{MAX_TEXT, MAX_BOUND}
use Rattle.series_id.specs.declared.kinds.Kind.{Kind}
use Rattle.series_id.specs.declared.kinds.Kind.TheVariants.{Histogram}
use Rattle.series_id.specs.Bounds.{IsBound, IsBounds}
use Rattle.series_id.specs.Identity.{Identity, row_length}
use Rattle.series_id.specs.Kinds.{IsKind}
use Rattle.series_id.proofs.Again.{bounds_again}
use Rattle.series_id.proofs.Refusals.{each_more}
use Rattle.metric_events.specs.declared.limits.TheConstants.{MAX_POINTS, MAX_SUM, MAX_BUCKET}
use Rattle.metric_events.specs.declared.limits.TheConstants.{MAX_COUNT}
use Rattle.metric_events.specs.DataPoint.{DataPoint, IsMerged}
use Rattle.metric_events.specs.Interval.{Interval, IsInterval}
use Rattle.metric_events.specs.Rows.{fits, are_within, histogram_row, buckets_of}
use Rattle.metric_events.specs.PointFaults.{histogram_fault, given_buckets, bounds_of}
use Rattle.metric_events.specs.PointFaults.{is_total_large}
use Rattle.otlp_read.specs.Integers.{unsigned_in, signed_in}
use Rattle.otlp_read.specs.Fields.{field, flags_fit, nanos_in, text_in, is_delta}
use Rattle.otlp_read.specs.Lists.{elements_in, list_in}
use Rattle.otlp_read.specs.Containers.{is_object, objects, object_in}
use Rattle.otlp_read.specs.Streams.{Scope, Stream, series_of, stream_in}
use Rattle.otlp_read.specs.Histograms.{count_in, total_in, histogram_fields, kind_in}
use Rattle.otlp_read.specs.Histograms.{histogram_point, histogram_point_in}
use Rattle.otlp_read.specs.Tallies.{Tally, add_metric}
use Rattle.otlp_read.specs.Metrics.{part, parts, is_single, add_profile, add_parts, metric}
use Rattle.out_texts.specs.Attributes.{attributes_value, attribute_value}
use Rattle.out_texts.specs.Points.{total_of, histogram_with, counts_value, bounds_value}
use Rattle.out_texts.specs.Points.{histogram_point_value, point_of_kind, point_value}
use Rattle.out_texts.specs.Request.{metric_of_kind}
use Rattle.out_texts.specs.Back.{point_read, row_read}
use Rattle.out_texts.proofs.Grouping.{Adds, each_point_again, elements_of_items, all_again}
use Rattle.out_texts.proofs.AttributesAgain.{attributes_again}
use Rattle.out_texts.proofs.NumbersAgain.{unsigned_again}
use Rattle.out_texts.proofs.PointsAgain.{stream_of, series_again, start_fits}
use Rattle.out_texts.proofs.SumsAgain.{IsOf, stream_below}

-- ---- lists of numbers

bound_again : (b : ℤ) → IsBound b → signed_in MAX_BOUND MAX_BOUND (number (of_integer b)) ≡ Some b
unfolding signed_in
bound_again (pos n) h = rw (le-leb n MAX_BOUND h) refl
bound_again (negsuc n) h = rw (le-leb (suc n) MAX_BOUND h) refl

bounds_read : (bs : List ℤ) → AllByRecursion IsBound bs
    → list_in (signed_in MAX_BOUND MAX_BOUND) (Some (bounds_value bs)) ≡ Some bs
unfolding elements_in
bounds_read bs h =
    rw (elements_of_items (map (λ b. number (of_integer b)) bs))
    (all_again (signed_in MAX_BOUND MAX_BOUND) (λ b. number (of_integer b)) (λ b. b) bs
    (each_more IsBound (λ b. signed_in MAX_BOUND MAX_BOUND (number (of_integer b)) ≡ Some b)
    bound_again bs h) ∙ ap (λ xs. Some xs) (map-id bs))

words_small : (ns : List ℕ) → are_within (λ k. MAX_BUCKET) ns ≡ true
    → AllByRecursion (λ n. n < 2 ^ 64) ns
words_small [] h = tt
words_small (n ∷ ns) h = let parts = and_parts _ _ h in
    (omega (arith, leb-true n MAX_BUCKET parts.0), words_small ns parts.1)

counts_read : (ns : List ℕ) → AllByRecursion (λ n. n < 2 ^ 64) ns
    → list_in (unsigned_in (2 ^ 64 - 1)) (Some (counts_value ns)) ≡ Some ns
unfolding elements_in
counts_read ns h =
    rw (elements_of_items (map (λ n. string (decimal n)) ns))
    (all_again (unsigned_in (2 ^ 64 - 1)) (λ n. string (decimal n)) (λ n. n) ns
    (each_more (λ n. n < 2 ^ 64) (λ n. unsigned_in (2 ^ 64 - 1) (string (decimal n)) ≡ Some n)
    unsigned_again ns h) ∙ ap (λ xs. Some xs) (map-id ns))

-- ---- the row

-- what a histogram's row within its limits gives
record IsRow (bs : List ℤ) (row : List ℕ) : Type 0 where
  pub long : length (buckets_of row) ≡ length bs + 1
  pub words : are_within (λ k. MAX_BUCKET) (buckets_of row) ≡ true
  pub few : sum (buckets_of row) ≤ MAX_COUNT
  pub small : slice_index row 2 ≤ MAX_SUM

row_of : (bs : List ℤ) (row : List ℕ) → length row ≡ length bs + 4 → fits (Histogram bs) row ≡ true
    → IsRow bs row
row_of bs [] e h = absurd (omega (arith, e))
row_of bs (a ∷ []) e h = absurd (omega (arith, e))
row_of bs (a ∷ b ∷ []) e h = absurd (omega (arith, e))
row_of bs (a ∷ b ∷ c ∷ rest) e h =
    let all = and_parts _ _ h in
    let w1 = and_parts (leb a MAX_POINTS) _ all.0 in let w2 = and_parts (leb b MAX_POINTS) _ w1.1 in
    let w3 = and_parts (leb c MAX_SUM) _ w2.1 in
    record {
      long = omega (arith, e);
      words = w3.1;
      few =
          leb-true (sum rest) MAX_COUNT all.1;
      small = leb-true c MAX_SUM w3.0;
    }

-- a sum that is there is within its limit
abbrev IsSmall : Option ℕ → Type 0
IsSmall None = Unit {0}
IsSmall (Some n) = n ≤ MAX_SUM

total_small : (row : List ℕ) → slice_index row 2 ≤ MAX_SUM → IsSmall (total_of row)
unfolding total_of
total_small row h = by (slice_index row 1 == 0)
  where
    by : (b : Bool) → IsSmall (cond b (Some (slice_index row 2)) None)
    by true = h
    by false = tt

given : (bs : List ℤ) (count : ℕ) (buckets : List ℕ) → length buckets ≡ length bs + 1
    → given_buckets bs count buckets ≡ buckets
given bs count [] e = absurd (omega (arith, e))
given [] count (b ∷ rest) e = refl
given (x ∷ bs) count (b ∷ rest) e = refl

not_large : (total : Option ℕ) → IsSmall total → is_total_large total ≡ false
not_large None small = refl
not_large (Some n) small = le-ltb MAX_SUM n small

histogram_unfaulted : (bs : List ℤ) (span : Interval) (total : Option ℕ) (buckets : List ℕ)
    → IsInterval span → length buckets ≡ length bs + 1 → IsSmall total
    → histogram_fault (Histogram bs) span.start span.end (sum buckets) total buckets ≡ None
histogram_unfaulted bs span total buckets is long small =
    rw (
      is.valid,
      given bs (sum buckets) buckets long,
      eq-eqb (length buckets) (length bs + 1) long,
      eq-eqb (sum buckets) (sum buckets) refl,
      not_large total small,
    ) refl

-- ---- points of histograms

number_again : (n : ℕ) → n ≤ MAX_SUM → unsigned_in (2 ^ 64 - 1) (number (unsigned n)) ≡ Some n
unfolding unsigned_in
number_again n h = rw (le-leb n (2 ^ 64 - 1) (omega (arith, h))) refl

fields_again : (bs : List ℤ) (p : DataPoint) (total : Option ℕ) → sum (buckets_of p.row) < 2 ^ 64
    → p.span.start < 2 ^ 64 → p.span.end < 2 ^ 64 → IsSmall total
    → histogram_fields (histogram_with total bs p)
    ≡ Some (record {
      start = p.span.start;
      end = p.span.end;
      count =
          sum (buckets_of p.row);
      total = total;
    })
unfolding histogram_fields nanos_in count_in total_in field flags_fit
fields_again bs p None c s e small =
    rw (
      unsigned_again p.span.start s,
      unsigned_again p.span.end e,
      unsigned_again
          (sum (buckets_of p.row)) c,
    ) refl
fields_again bs p (Some n) c s e small =
    rw (
      unsigned_again p.span.start s,
      unsigned_again p.span.end e,
      unsigned_again
          (sum (buckets_of p.row)) c,
      number_again n small,
    ) refl

bounds_field : (bs : List ℤ) (p : DataPoint) (total : Option ℕ)
    → field (codes "explicitBounds") (histogram_with total bs p) ≡ Some (bounds_value bs)
unfolding field
bounds_field bs p total = refl

counts_field : (bs : List ℤ) (p : DataPoint) (total : Option ℕ)
    → field (codes "bucketCounts") (histogram_with total bs p)
    ≡ Some (counts_value (buckets_of p.row))
unfolding field
counts_field bs p total = refl

attributes_field : (bs : List ℤ) (p : DataPoint) (total : Option ℕ)
    → field (codes "attributes") (histogram_with total bs p)
    ≡ Some (array (items_of (map attribute_value p.series.attrs)))
unfolding field attributes_value
attributes_field bs p total = refl

kind_again : (bs : List ℤ) (p : DataPoint) (total : Option ℕ) → IsBounds bs
    → kind_in (histogram_with total bs p) ≡ Some (Histogram bs)
unfolding kind_in
kind_again bs p total h = rw (
  bounds_field bs p total,
  bounds_read bs
      (recursion_from_All IsBound bs h.small),
  bounds_again bs h,
) refl

pub histogram_again : (p : DataPoint) (bs : List ℤ) → p.series.kind ≡ Histogram bs → IsMerged p
    → histogram_point (stream_of p.series) (histogram_point_value bs p) ≡ Some (point_read p)
unfolding histogram_point series_of
histogram_again p bs k h =
    let long : length p.row ≡ length bs + 4 = h.long ∙ ap row_length k in
    let within : fits (Histogram bs) p.row ≡ true =
    ap (λ (kind : Kind). fits kind p.row) (sym k) ∙ h.within in
    let is : IsRow bs p.row = row_of bs p.row long within in
    let bounds : IsBounds bs = subst IsKind k h.named.kind in
    let count : sum (buckets_of p.row) < 2 ^ 64 = omega (arith, is.few) in
    let small : IsSmall (total_of p.row) = total_small p.row is.small in
    let whole : given_buckets bs (sum (buckets_of p.row)) (buckets_of p.row) ≡ buckets_of p.row =
    given bs (sum (buckets_of p.row)) (buckets_of p.row) is.long in
    let unfaulted : histogram_fault p.series.kind p.span.start p.span.end (sum (buckets_of p.row))
    (total_of p.row) (buckets_of p.row) ≡ None =
    ap (λ (kind : Kind). histogram_fault kind p.span.start p.span.end (sum (buckets_of p.row))
    (total_of p.row) (buckets_of p.row)) k
    ∙ histogram_unfaulted bs p.span (total_of p.row) (buckets_of p.row) h.span is.long small in
    let row : histogram_row (total_of p.row)
    (given_buckets (bounds_of p.series.kind) (sum (buckets_of p.row)) (buckets_of p.row))
    ≡ row_read p.series.kind p.row =
    ap (λ (kind : Kind). histogram_row (total_of p.row)
    (given_buckets (bounds_of kind) (sum (buckets_of p.row)) (buckets_of p.row))) k
    ∙ ap (λ (buckets : List ℕ). histogram_row (total_of p.row) buckets) whole
    ∙ ap (λ (kind : Kind). row_read kind p.row) (sym k) in
    rw (
      fields_again bs p (total_of p.row) count (start_fits p.span h.span) h.span.fits small,
      kind_again bs p (total_of p.row) bounds,
      counts_field bs p (total_of p.row),
      counts_read (buckets_of p.row) (words_small (buckets_of p.row) is.words),
      attributes_field bs p (total_of p.row),
      attributes_again p.series.attrs h.named.attrs,
      series_again p.series (Histogram bs) h.named k,
      unfaulted,
    )
    (ap (λ r. Some (record { series = p.series; span = p.span; row = r })) row)

-- ---- the metric

abbrev histogram_part : List Data → Data
histogram_part ds = object (
    member (codes "aggregationTemporality") (number (unsigned 1)) (
    member (codes "dataPoints") (array (items_of ds)) no_members))

histogram_parts : (x : Identity) (bs : List ℤ) (ds : List Data) → list_all is_object ds ≡ true
    → parts (metric_of_kind (Histogram bs) x ds)
    ≡ Ok (record {
      gauge = None;
      sum = None;
      histogram =
          Some (record { whole = histogram_part ds; points = ds });
      exponential = None;
      summary =
          None;
    })
unfolding parts part field object_in objects
histogram_parts x bs ds h = rw (elements_of_items ds, h) refl

histogram_stream : (x : Identity) (scope : Scope) (bs : List ℤ) (ds : List Data)
    → length x.name ≤ MAX_TEXT → length x.unit ≤ MAX_TEXT
    → stream_in (Some scope) (metric_of_kind (Histogram bs) x ds) (histogram_part ds)
    ≡ Some (stream_below scope x)
unfolding stream_in field text_in is_delta
histogram_stream x scope bs ds name unit =
    rw (le-leb (length x.name) MAX_TEXT name, le-leb (length x.unit) MAX_TEXT unit) refl

histogram_point_again : (stream : Stream) (bs : List ℤ) (p : DataPoint)
    → IsOf stream (Histogram bs) p
    → histogram_point_in (Some stream) (point_value p) ≡ Some (point_read p)
unfolding point_value
histogram_point_again stream bs p h =
    ap (λ (kind : Kind). histogram_point stream (point_of_kind kind p)) h.kind
    ∙ ap (λ (above : Stream). histogram_point above (point_of_kind (Histogram bs) p)) (sym h.stream)
    ∙ histogram_again p bs h.kind h.made

pub histogram_metric_again : (x : Identity) (scope : Scope) (bs : List ℤ) (ps : List DataPoint)
    (t : Tally) → length x.name ≤ MAX_TEXT → length x.unit ≤ MAX_TEXT
    → list_all is_object (map point_value ps) ≡ true
    → AllByRecursion (IsOf (stream_below scope x) (Histogram bs)) ps
    → Adds ps t (metric (Some scope) (metric_of_kind (Histogram bs) x (map point_value ps)) t)
unfolding metric add_parts add_profile is_single
histogram_metric_again x scope bs ps t name unit are h = (
  (add_metric t).metrics,
  rw (
    histogram_parts x bs (map point_value ps) are,
    histogram_stream x scope bs
        (map point_value ps) name unit,
  )
      (ap (λ (s : Tally). Ok s)
      (each_point_again (histogram_point_in (Some (stream_below scope x))) point_value ps
      (each_more (IsOf (stream_below scope x) (Histogram bs))
      (λ p. histogram_point_in (Some (stream_below scope x)) (point_value p)
      ≡ Some (point_read p)) (histogram_point_again (stream_below scope x) bs) ps h)
      (add_metric t))),
)
