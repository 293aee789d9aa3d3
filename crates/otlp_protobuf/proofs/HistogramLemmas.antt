-- A histogram's point, from its fields, its lists and its series.
use Rattle.std.proofs.Common.{◌≡◌, ℕ, List, Option, Some, None, option_map, refl, ap, sym, subst}
use Rattle.std.proofs.Common.{◌∙◌}
use Rattle.std.specs.Prelude.{ℤ, codes, option_and_then}
use Rattle.std.specs.Result.{result_ok}
use Rattle.serde_json.specs.Data.{Data}
use Rattle.series_id.specs.Ascending.{histogram_of}
use Rattle.series_id.specs.Identity.{Identity}
use Rattle.series_id.specs.declared.kinds.Kind.{Kind}
use Rattle.series_id.specs.declared.limits.TheConstants.{MAX_BOUND}
use Rattle.metric_events.specs.DataPoint.{DataPoint}
use Rattle.metric_events.specs.NewPoints.{point_of_histogram}
use Rattle.metric_events.specs.PointFaults.{IsHistogram, histogram_fault}
use Rattle.otlp_read.specs.Fields.{field, present}
use Rattle.otlp_read.specs.Histograms.{HistogramFields, histogram_fields, kind_in, histogram_point}
use Rattle.otlp_read.specs.Integers.{unsigned_64, signed_in}
use Rattle.otlp_read.specs.Lists.{all_of, list_in}
use Rattle.otlp_read.specs.Rules.{unless}
use Rattle.otlp_read.specs.Streams.{Stream, series_of}
use Rattle.otlp_read.proofs.PointLemmas.{kind_of_histogram, kind_of_known}
use Rattle.otlp_protobuf.specs.declared.histogram_point.HistogramPoint.{HistogramPoint}
use Rattle.otlp_protobuf.specs.Doubles.{whole_double}
use Rattle.otlp_protobuf.specs.Members.{or_null, unsigned_data, number_data, double_data, list_data}
use Rattle.otlp_protobuf.specs.Points.{take_histogram, no_histogram, histogram_point_of}
use Rattle.otlp_protobuf.specs.Points.{histogram_point_data}
use Rattle.otlp_protobuf.specs.Wire.{fields}
use Rattle.otlp_protobuf.specs.Fields.{gathered}
use Rattle.otlp_protobuf.specs.inner.HistogramViews.{histogram_fields_of}
use Rattle.otlp_protobuf.specs.inner.KindViews.{bounds_kind}
use Rattle.otlp_protobuf.proofs.PointLemmas.{unsigned_shown}
use Rattle.otlp_protobuf.proofs.ValueLemmas.{list_read}

number_present : (bits : ℕ) (z : Option ℤ)
    → present (Some (number_data bits z)) ≡ Some (number_data bits z)
number_present bits None = refl
number_present bits (Some z) = refl

double_shown : (o : Option ℕ)
    → present (Some (or_null (option_map double_data o))) ≡ option_map double_data o
double_shown None = refl
double_shown (Some bits) = number_present bits (whole_double bits)

start_of : (p : HistogramPoint) (buckets bounds attributes : List Data)
    → field (codes "startTimeUnixNano") (histogram_point_data p buckets bounds attributes)
    ≡ option_map unsigned_data p.start
unfolding field histogram_point_data
start_of p buckets bounds attributes = unsigned_shown p.start

end_of : (p : HistogramPoint) (buckets bounds attributes : List Data)
    → field (codes "timeUnixNano") (histogram_point_data p buckets bounds attributes)
    ≡ option_map unsigned_data p.end
unfolding field histogram_point_data
end_of p buckets bounds attributes = unsigned_shown p.end

count_of : (p : HistogramPoint) (buckets bounds attributes : List Data)
    → field (codes "count") (histogram_point_data p buckets bounds attributes)
    ≡ option_map unsigned_data p.count
unfolding field histogram_point_data
count_of p buckets bounds attributes = unsigned_shown p.count

total_of : (p : HistogramPoint) (buckets bounds attributes : List Data)
    → field (codes "sum") (histogram_point_data p buckets bounds attributes)
    ≡ option_map double_data p.total
unfolding field histogram_point_data
total_of p buckets bounds attributes = double_shown p.total

flags_of : (p : HistogramPoint) (buckets bounds attributes : List Data)
    → field (codes "flags") (histogram_point_data p buckets bounds attributes)
    ≡ option_map unsigned_data p.flags
unfolding field histogram_point_data
flags_of p buckets bounds attributes = unsigned_shown p.flags

buckets_of : (p : HistogramPoint) (buckets bounds attributes : List Data)
    → field (codes "bucketCounts") (histogram_point_data p buckets bounds attributes)
    ≡ Some (list_data buckets)
unfolding field histogram_point_data
buckets_of p buckets bounds attributes = refl

bounds_of : (p : HistogramPoint) (buckets bounds attributes : List Data)
    → field (codes "explicitBounds") (histogram_point_data p buckets bounds attributes)
    ≡ Some (list_data bounds)
unfolding field histogram_point_data
bounds_of p buckets bounds attributes = refl

attributes_of : (p : HistogramPoint) (buckets bounds attributes : List Data)
    → field (codes "attributes") (histogram_point_data p buckets bounds attributes)
    ≡ Some (list_data attributes)
unfolding field histogram_point_data
attributes_of p buckets bounds attributes = refl

pub histogram_fields_are : (p : HistogramPoint) (buckets bounds attributes : List Data)
    → histogram_fields (histogram_point_data p buckets bounds attributes) ≡ histogram_fields_of p
unfolding histogram_fields
histogram_fields_are p buckets bounds attributes =
    rw (
      start_of p buckets bounds attributes,
      end_of p buckets bounds attributes,
      count_of p buckets
          bounds attributes,
      total_of p buckets bounds attributes,
      flags_of p buckets bounds
          attributes,
    ) refl

pub kind_is : (p : HistogramPoint) (buckets bounds attributes : List Data)
    → kind_in (histogram_point_data p buckets bounds attributes) ≡ bounds_kind bounds
unfolding kind_in
kind_is p buckets bounds attributes =
    rw (bounds_of p buckets bounds attributes, list_read (signed_in MAX_BOUND MAX_BOUND) bounds)
    refl

buckets_are : (p : HistogramPoint) (buckets bounds attributes : List Data)
    → list_in unsigned_64 (field (codes "bucketCounts")
    (histogram_point_data p buckets bounds attributes)) ≡ all_of unsigned_64 buckets
buckets_are p buckets bounds attributes =
    rw (buckets_of p buckets bounds attributes) (list_read unsigned_64 buckets)

pub no_fields : (stream : Stream) (p : HistogramPoint) (buckets bounds attributes : List Data)
    → None ≡ histogram_fields (histogram_point_data p buckets bounds attributes)
    → None ≡ histogram_point stream (histogram_point_data p buckets bounds attributes)
unfolding histogram_point
no_fields stream p buckets bounds attributes read = rw (← read) refl

no_kind : (stream : Stream) (p : HistogramPoint) (buckets bounds attributes : List Data)
    (f : HistogramFields)
    → Some f ≡ histogram_fields (histogram_point_data p buckets bounds attributes)
    → None ≡ bounds_kind bounds
    → None ≡ histogram_point stream (histogram_point_data p buckets bounds attributes)
unfolding histogram_point
no_kind stream p buckets bounds attributes f read kind =
    rw (← read, kind_is p buckets bounds attributes, ← kind) refl

no_buckets_of_kind : (stream : Stream) (p : HistogramPoint) (buckets bounds attributes : List Data)
    (f : HistogramFields) (k : Kind)
    → Some f ≡ histogram_fields (histogram_point_data p buckets bounds attributes)
    → Some k ≡ bounds_kind bounds → None ≡ all_of unsigned_64 buckets
    → None ≡ histogram_point stream (histogram_point_data p buckets bounds attributes)
unfolding histogram_point
no_buckets_of_kind stream p buckets bounds attributes f k read kind none =
    rw (
      ← read,
      kind_is p buckets bounds attributes,
      ← kind,
      buckets_are p buckets bounds
          attributes,
      ← none,
    ) refl

no_series_of_kind : (stream : Stream) (p : HistogramPoint) (buckets bounds attributes : List Data)
    (f : HistogramFields) (k : Kind) (bs : List ℕ)
    → Some f ≡ histogram_fields (histogram_point_data p buckets bounds attributes)
    → Some k ≡ bounds_kind bounds → Some bs ≡ all_of unsigned_64 buckets
    → None ≡ series_of stream k (Some (list_data attributes))
    → None ≡ histogram_point stream (histogram_point_data p buckets bounds attributes)
unfolding histogram_point
no_series_of_kind stream p buckets bounds attributes f k bs read kind counts none =
    rw (
      ← read,
      kind_is p buckets bounds attributes,
      ← kind,
      buckets_are p buckets bounds
          attributes,
      ← counts,
      attributes_of p buckets bounds attributes,
      ← none,
    ) refl

has_series_of_kind : (stream : Stream) (p : HistogramPoint) (buckets bounds attributes : List Data)
    (f : HistogramFields) (k : Kind) (bs : List ℕ) (s : Identity) (r : Option DataPoint)
    → Some f ≡ histogram_fields (histogram_point_data p buckets bounds attributes)
    → Some k ≡ bounds_kind bounds → Some bs ≡ all_of unsigned_64 buckets
    → Some s ≡ series_of stream k (Some (list_data attributes))
    → r ≡ unless (histogram_fault s.kind f.start f.end f.count f.total bs)
    (point_of_histogram s f.start f.end f.count f.total bs)
    → r ≡ histogram_point stream (histogram_point_data p buckets bounds attributes)
unfolding histogram_point
has_series_of_kind stream p buckets bounds attributes f k bs s r read kind counts known is =
    rw (
      ← read,
      kind_is p buckets bounds attributes,
      ← kind,
      buckets_are p buckets bounds
          attributes,
      ← counts,
      attributes_of p buckets bounds attributes,
      ← known,
    ) is

-- that kind is a histogram's
kind_is_histogram : (bounds : List Data) (k : Kind) → bounds_kind bounds ≡ Some k → IsHistogram k
kind_is_histogram bounds k h = by_bounds (all_of (signed_in MAX_BOUND MAX_BOUND) bounds) h
  where
    by_bounds : (found : Option (List ℤ))
        → option_and_then (λ bs. result_ok (histogram_of bs)) found ≡ Some k → IsHistogram k
    by_bounds None h = absurd cc
    by_bounds (Some bs) h = kind_of_histogram bs k h

-- ---- of a kind that may be none

-- the fields that were read are those of the point
pub fields_said : (bytes : List ℕ) (p : HistogramPoint) (o : Option HistogramFields)
    (buckets bounds attributes : List Data)
    → p ≡ gathered take_histogram no_histogram (fields bytes)
    → o ≡ histogram_fields_of p → o ≡ histogram_fields
    (histogram_point_data (histogram_point_of bytes) buckets bounds attributes)
fields_said bytes p o buckets bounds attributes said read =
    read ∙ ap histogram_fields_of said
    ∙ sym (histogram_fields_are (histogram_point_of bytes) buckets bounds attributes)

pub no_buckets : (stream : Stream) (p : HistogramPoint) (buckets bounds attributes : List Data)
    (f : HistogramFields)
    → Some f ≡ histogram_fields (histogram_point_data p buckets bounds attributes)
    → None ≡ all_of unsigned_64 buckets
    → None ≡ histogram_point stream (histogram_point_data p buckets bounds attributes)
no_buckets stream p buckets bounds attributes f read none = by_kind (bounds_kind bounds) refl
  where
    by_kind : (kind : Option Kind) → kind ≡ bounds_kind bounds
        → None ≡ histogram_point stream (histogram_point_data p buckets bounds attributes)
    by_kind None is = no_kind stream p buckets bounds attributes f read is
    by_kind (Some k) is = no_buckets_of_kind stream p buckets bounds attributes f k read is none

pub no_series : (stream : Stream) (p : HistogramPoint) (buckets bounds attributes : List Data)
    (f : HistogramFields) (bs : List ℕ)
    → Some f ≡ histogram_fields (histogram_point_data p buckets bounds attributes)
    → Some bs ≡ all_of unsigned_64 buckets
    → None ≡ option_and_then (λ k. series_of stream k (Some (list_data attributes)))
    (bounds_kind bounds)
    → None ≡ histogram_point stream (histogram_point_data p buckets bounds attributes)
no_series stream p buckets bounds attributes f bs read counts none =
    by_kind (bounds_kind bounds) refl none
  where
    by_kind : (kind : Option Kind) → kind ≡ bounds_kind bounds
        → None ≡ option_and_then (λ k. series_of stream k (Some (list_data attributes))) kind
        → None ≡ histogram_point stream (histogram_point_data p buckets bounds attributes)
    by_kind None is none = no_kind stream p buckets bounds attributes f read is
    by_kind (Some k) is none =
        no_series_of_kind stream p buckets bounds attributes f k bs read is counts none

pub has_series : (stream : Stream) (p : HistogramPoint) (buckets bounds attributes : List Data)
    (f : HistogramFields) (bs : List ℕ) (s : Identity) (r : Option DataPoint)
    → Some f ≡ histogram_fields (histogram_point_data p buckets bounds attributes)
    → Some bs ≡ all_of unsigned_64 buckets
    → Some s ≡ option_and_then (λ k. series_of stream k (Some (list_data attributes)))
    (bounds_kind bounds)
    → r ≡ unless (histogram_fault s.kind f.start f.end f.count f.total bs)
    (point_of_histogram s f.start f.end f.count f.total bs)
    → r ≡ histogram_point stream (histogram_point_data p buckets bounds attributes)
has_series stream p buckets bounds attributes f bs s r read counts known is =
    by_kind (bounds_kind bounds) refl known
  where
    by_kind : (kind : Option Kind) → kind ≡ bounds_kind bounds
        → Some s ≡ option_and_then (λ k. series_of stream k (Some (list_data attributes))) kind
        → r ≡ histogram_point stream (histogram_point_data p buckets bounds attributes)
    by_kind None kind known = absurd cc
    by_kind (Some k) kind known =
        has_series_of_kind stream p buckets bounds attributes f k bs s r read kind counts known is

-- the series is a histogram
pub series_is_histogram : (stream : Stream) (found : Option Data) (bounds : List Data)
    (s : Identity) → Some s ≡ option_and_then (λ k. series_of stream k found) (bounds_kind bounds)
    → IsHistogram s.kind
series_is_histogram stream found bounds s known = by_kind (bounds_kind bounds) refl known
  where
    by_kind : (kind : Option Kind) → bounds_kind bounds ≡ kind
        → Some s ≡ option_and_then (λ k. series_of stream k found) kind → IsHistogram s.kind
    by_kind None kind known = absurd cc
    by_kind (Some k) kind known = subst IsHistogram (kind_of_known stream k found s (sym known))
        (kind_is_histogram bounds k kind)
