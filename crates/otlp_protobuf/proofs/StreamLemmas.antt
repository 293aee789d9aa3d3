-- The texts of scopes and metrics, and what a sum and a histogram say of themselves.
use Rattle.std.proofs.Common.{◌≡◌, ℕ, suc, ◌-◌, ◌^◌, ◌%◌, List, map, Bool, true, false, Option}
use Rattle.std.proofs.Common.{Some, None, option_map, refl, ap, sym, ◌∙◌, arith, w32}
use Rattle.std.specs.Prelude.{codes, nat_lt, ◌==◌, negsuc}
use Rattle.std.specs.Int.{cast_signed}
use Rattle.std.proofs.lemmas.Bool.{ltb-true, ltb-false, ne_eqb}
use Rattle.std.proofs.lemmas.Int.{to_z_pos}
use Rattle.serde_json.specs.Data.{Data, string}
use Rattle.series_id.specs.declared.attributes.Attribute.{Attribute}
use Rattle.otlp_read.specs.Fields.{field, is_delta, present, text_in, truth_in}
use Rattle.otlp_read.specs.Histograms.{histogram_point_in}
use Rattle.otlp_read.specs.Metrics.{add_histogram, add_sum}
use Rattle.otlp_read.specs.Streams.{Scope, inner, scope_in, stream_in, sum_stream_in}
use Rattle.otlp_read.specs.Sums.{sum_point_in}
use Rattle.otlp_read.specs.Tallies.{Tally, each_point}
use Rattle.otlp_protobuf.specs.Wire.{Value, fields, fields_from}
use Rattle.otlp_protobuf.specs.Fields.{bits, contents, last, text_at, so_far}
use Rattle.otlp_protobuf.specs.Members.{or_null, signed_data}
use Rattle.otlp_protobuf.specs.Request.{temporality, truth, histogram_message, metric_message}
use Rattle.otlp_protobuf.specs.Request.{scope_message, sum_message}
use Rattle.otlp_protobuf.specs.Points.{number_point, histogram_point}
use Rattle.otlp_protobuf.specs.inner.PartViews.{histogram_part, sum_part}
use Rattle.otlp_protobuf.specs.inner.StreamViews.{delta_from, histogram_stream_from, scope_from}
use Rattle.otlp_protobuf.specs.inner.StreamViews.{stream_from, sum_stream_from, truth_from}
use Rattle.otlp_protobuf.proofs.ValueLemmas.{text_shown}

-- ---- a scope, which may be absent

scope_name : (w : Option (List ℕ))
    → text_in (inner (codes "name") (option_map scope_message w))
    ≡ text_in (option_map string (text_at 1 (so_far w)))
unfolding inner field scope_message fields_from
scope_name None = refl
scope_name (Some b) = ap text_in (text_shown (text_at 1 b))

scope_version : (w : Option (List ℕ))
    → text_in (inner (codes "version") (option_map scope_message w))
    ≡ text_in (option_map string (text_at 2 (so_far w)))
unfolding inner field scope_message fields_from
scope_version None = refl
scope_version (Some b) = ap text_in (text_shown (text_at 2 b))

-- ---- a metric

metric_name : (b : List ℕ)
    → field (codes "name") (metric_message b) ≡ option_map string (text_at 1 b)
unfolding field metric_message
metric_name b = text_shown (text_at 1 b)

metric_unit : (b : List ℕ)
    → field (codes "unit") (metric_message b) ≡ option_map string (text_at 3 b)
unfolding field metric_message
metric_unit b = text_shown (text_at 3 b)

-- ---- its data

temporality_shown : (v : Option Value)
    → present (Some (or_null (option_map temporality v))) ≡ option_map temporality v
unfolding temporality
temporality_shown None = refl
temporality_shown (Some v) = refl

truth_shown : (v : Option Value)
    → present (Some (or_null (option_map truth v))) ≡ option_map truth v
truth_shown None = refl
truth_shown (Some v) = refl

sum_temporality : (b : List ℕ)
    → field (codes "aggregationTemporality") (sum_message b) ≡ option_map temporality (last 2 b)
unfolding field sum_message
sum_temporality b = temporality_shown (last 2 b)

histogram_temporality : (b : List ℕ)
    → field (codes "aggregationTemporality") (histogram_message b)
    ≡ option_map temporality (last 2 b)
unfolding field histogram_message
histogram_temporality b = temporality_shown (last 2 b)

sum_monotonic : (b : List ℕ)
    → field (codes "isMonotonic") (sum_message b) ≡ option_map truth (last 3 b)
unfolding field sum_message
sum_monotonic b = truth_shown (last 3 b)

enum_by : (n : ℕ) (small : Bool) → nat_lt n (2 ^ 31) ≡ small
    → is_delta (Some (signed_data (cast_signed w32 n))) ≡ (n == 1)
unfolding is_delta
enum_by n true is = rw (to_z_pos w32 n (ltb-true n (2 ^ 31) is)) refl
enum_by n false is =
    let large = ltb-false n (2 ^ 31) is in
    let below : cast_signed w32 n ≡ negsuc (2 ^ 32 - suc n) = rw is refl in
    rw below (sym (ne_eqb n 1 (λ e. omega arith)))

-- delta is the number 1
delta_is : (o : Option Value) → is_delta (option_map temporality o) ≡ delta_from o
unfolding is_delta temporality
delta_is None = refl
delta_is (Some v) = enum_by (bits v % 2 ^ 32) (nat_lt (bits v % 2 ^ 32) (2 ^ 31)) refl

truth_is : (o : Option Value) → truth_in (option_map truth o) ≡ Some (truth_from o)
unfolding truth_in
truth_is None = refl
truth_is (Some v) = refl

-- ---- the streams

pub scope_is : (resource : Option (List Attribute)) (w : Option (List ℕ))
    (attributes : Option (List Attribute))
    → scope_in resource (option_map scope_message w) attributes
    ≡ scope_from resource (so_far w) attributes
unfolding scope_in
scope_is resource w attributes = rw (scope_name w, scope_version w) refl

stream_is : (scope : Option Scope) (metric : List ℕ) (part : Data)
    → stream_in scope (metric_message metric) part
    ≡ stream_from scope metric (is_delta (field (codes "aggregationTemporality") part))
unfolding stream_in
stream_is scope metric part = rw (metric_name metric, metric_unit metric) refl

histogram_stream_is : (scope : Option Scope) (metric histogram : List ℕ)
    → stream_in scope (metric_message metric) (histogram_message histogram)
    ≡ histogram_stream_from scope metric histogram
histogram_stream_is scope metric histogram =
    stream_is scope metric (histogram_message histogram)
    ∙ ap (stream_from scope metric)
    (ap is_delta (histogram_temporality histogram) ∙ delta_is (last 2 histogram))

sum_stream_is : (scope : Option Scope) (metric sum : List ℕ)
    → sum_stream_in scope (metric_message metric) (sum_message sum)
    ≡ sum_stream_from scope metric sum
unfolding sum_stream_in
sum_stream_is scope metric sum =
    rw (
      stream_is scope metric (sum_message sum),
      sum_temporality sum,
      delta_is (last 2 sum),
      sum_monotonic sum,
      truth_is (last 3 sum),
    ) refl

-- ---- the points in them

pub sum_added : (scope : Option Scope) (metric sum : List ℕ) (t : Tally)
    → add_sum scope (metric_message metric) (sum_part (Some sum)) t
    ≡ each_point (sum_point_in (sum_stream_from scope metric sum))
    (map number_point (contents 1 (fields sum))) t
sum_added scope metric sum t = rw (sum_stream_is scope metric sum) refl

pub histogram_added : (scope : Option Scope) (metric histogram : List ℕ) (t : Tally)
    → add_histogram scope (metric_message metric) (histogram_part (Some histogram)) t
    ≡ each_point (histogram_point_in (histogram_stream_from scope metric histogram))
    (map histogram_point (contents 1 (fields histogram))) t
histogram_added scope metric histogram t = rw (histogram_stream_is scope metric histogram) refl
