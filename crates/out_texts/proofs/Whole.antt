-- Values that have no float and nest little.
use Rattle.std.proofs.Common.{◌≡◌, ◌≤◌, ℕ, ◌==◌, Bool, true, false, List, [], ◌∷◌, map, refl}
use Rattle.std.proofs.Common.{if◌then◌else◌, Option, Some, None, ℤ, pos, negsuc, arith}
use Rattle.std.specs.Prelude.{decimal}
use Rattle.serde_json.specs.Data.{Data, number, string, depth, items_depth}
use Rattle.serde_json.specs.Find.{of_integer}
use Rattle.serde_json.specs.View.{items_of}
use Rattle.serde_json.specs.Written.{has_float, items_have_float}
use Rattle.back_answers.specs.declared.answer.Act.{Act}
use Rattle.series_id.specs.declared.scalars.Scalar.{Scalar}
use Rattle.series_id.specs.declared.scalars.Scalar.TheVariants.{Empty, Truth, Int, Text}
use Rattle.series_id.specs.declared.values.AttrValue.{AttrValue}
use Rattle.series_id.specs.declared.values.AttrValue.TheVariants.{One, Many}
use Rattle.series_id.specs.declared.attributes.Attribute.{Attribute}
use Rattle.series_id.specs.declared.kinds.Kind.{Kind}
use Rattle.series_id.specs.declared.kinds.Kind.TheVariants.{Sum, Histogram}
use Rattle.series_id.specs.Identity.{Identity}
use Rattle.metric_events.specs.DataPoint.{DataPoint}
use Rattle.metric_events.specs.Rows.{buckets_of}
use Rattle.out_texts.specs.Groups.{members, groups}
use Rattle.out_texts.specs.Attributes.{scalar_value, attr_value, attribute_value, attributes_value}
use Rattle.out_texts.specs.declared.level.Level.TheVariants as level
use Rattle.out_texts.specs.Sharing.{same}
use Rattle.out_texts.specs.Points.{total_of, point_of_kind, histogram_with, counts_value}
use Rattle.out_texts.specs.Points.{bounds_value, point_value}
use Rattle.out_texts.specs.Request.{metric_of_kind, metric_value, scope_value, resource_value}
use Rattle.out_texts.specs.Request.{request_value}
use Rattle.out_texts.specs.Answers.{success_value, turn_value}

-- a value without floats, nested at most so deep
abbrev pub IsWhole : ℕ → Data → Type 0
IsWhole k d = (has_float d ≡ false) × (depth d ≤ k)

if_whole : (b : Bool) (x y : Data) → has_float x ≡ false → has_float y ≡ false
    → has_float (if b then x else y) ≡ false
if_whole true x y hx hy = hx
if_whole false x y hx hy = hy

pub success_whole : (n : ℕ) → has_float (success_value n) ≡ false
unfolding success_value
success_whole n = if_whole (n == 0) _ _ refl refl

pub turn_whole : (f n : ℕ) (act : Act) (after : Option ℕ)
    → has_float (turn_value f n act after) ≡ false
unfolding turn_value
turn_whole f n act None = refl
turn_whole f n act (Some s) = refl

-- ---- the request

all_whole : {X : Type 0} (write : X → Data) (k : ℕ) → ((x : X) → IsWhole k (write x))
    → (xs : List X)
    → (items_have_float (items_of (map write xs)) ≡ false)
    × (items_depth (items_of (map write xs)) ≤ k)
all_whole write k h [] = (refl, omega arith)
all_whole write k h (x ∷ xs) = let w = h x in let ws = all_whole write k h xs in
    (rw w.0 ws.0, omega (arith, w.1, ws.1))

scalar_whole : (x : Scalar) → IsWhole 1 (scalar_value x)
unfolding scalar_value
scalar_whole Empty = (refl, omega arith)
scalar_whole (Truth b) = (refl, omega arith)
scalar_whole (Int n) = (refl, omega arith)
scalar_whole (Text t) = (refl, omega arith)

value_whole : (x : AttrValue) → IsWhole 4 (attr_value x)
unfolding attr_value
value_whole (One x) = let w = scalar_whole x in (w.0, omega (arith, w.1))
value_whole (Many xs) = let w = all_whole scalar_value 1 scalar_whole xs in
    (rw w.0 refl, omega (arith, w.1))

attribute_whole : (a : Attribute) → IsWhole 5 (attribute_value a)
unfolding attribute_value
attribute_whole a = let w = value_whole a.value in (rw w.0 refl, omega (arith, w.1))

attributes_whole : (set : List Attribute) → IsWhole 6 (attributes_value set)
unfolding attributes_value
attributes_whole set = let w = all_whole attribute_value 5 attribute_whole set in
    (w.0, omega (arith, w.1))

bound_whole : (b : ℤ) → IsWhole 0 (number (of_integer b))
bound_whole (pos n) = (refl, omega arith)
bound_whole (negsuc n) = (refl, omega arith)

counts_whole : (ns : List ℕ) → IsWhole 1 (counts_value ns)
counts_whole ns = let w = all_whole (λ n. string (decimal n)) 0 (λ n. (refl, omega arith)) ns in
    (w.0, omega (arith, w.1))

bounds_whole : (bs : List ℤ) → IsWhole 1 (bounds_value bs)
bounds_whole bs = let w = all_whole (λ b. number (of_integer b)) 0 bound_whole bs in
    (w.0, omega (arith, w.1))

histogram_whole : (bs : List ℤ) (p : DataPoint) (total : Option ℕ)
    → IsWhole 7 (histogram_with total bs p)
histogram_whole bs p total =
    by total (attributes_whole p.series.attrs) (counts_whole (buckets_of p.row)) (bounds_whole bs)
  where
    by : (total : Option ℕ) → IsWhole 6 (attributes_value p.series.attrs)
        → IsWhole 1 (counts_value (buckets_of p.row)) → IsWhole 1 (bounds_value bs)
        → IsWhole 7 (histogram_with total bs p)
    by None a c b = (rw (a.0, c.0, b.0) refl, omega (arith, a.1, c.1, b.1))
    by (Some n) a c b = (rw (a.0, c.0, b.0) refl, omega (arith, a.1, c.1, b.1))

point_whole : (p : DataPoint) → IsWhole 7 (point_value p)
unfolding point_value
point_whole p = by p.series.kind
  where
    by : (k : Kind) → IsWhole 7 (point_of_kind k p)
    by (Sum m) = let w = attributes_whole p.series.attrs in (rw w.0 refl, omega (arith, w.1))
    by (Histogram bs) = histogram_whole bs p (total_of p.row)

metric_whole : (x : Identity) (ps : List DataPoint) → IsWhole 10 (metric_value x ps)
unfolding metric_value
metric_whole x ps = by x.kind (all_whole point_value 7 point_whole ps)
  where
    by : (k : Kind) → (items_have_float (items_of (map point_value ps)) ≡ false)
        × (items_depth (items_of (map point_value ps)) ≤ 7)
        → IsWhole 10 (metric_of_kind k x (map point_value ps))
    by (Sum m) w = (rw w.0 refl, omega (arith, w.1))
    by (Histogram bs) w = (rw w.0 refl, omega (arith, w.1))

scope_whole : (x : Identity) (ps : List DataPoint) → IsWhole 12 (scope_value x ps)
unfolding scope_value
scope_whole x ps =
    let w = all_whole (λ g. metric_value g.0.series (members g)) 10
    (λ g. metric_whole g.0.series (members g)) (groups (same level.Metric) ps) in
    let a = attributes_whole x.scope_attrs in (rw (w.0, a.0) refl, omega (arith, w.1, a.1))

resource_whole : (x : Identity) (ps : List DataPoint) → IsWhole 14 (resource_value x ps)
unfolding resource_value
resource_whole x ps =
    let w = all_whole (λ g. scope_value g.0.series (members g)) 12
    (λ g. scope_whole g.0.series (members g)) (groups (same level.Scope) ps) in
    let a = attributes_whole x.resource in (rw (w.0, a.0) refl, omega (arith, w.1, a.1))

pub request_whole : (ps : List DataPoint) → IsWhole 16 (request_value ps)
unfolding request_value
request_whole ps =
    let w = all_whole (λ g. resource_value g.0.series (members g)) 14
    (λ g. resource_whole g.0.series (members g)) (groups (same level.Resource) ps) in
    (rw w.0 refl, omega (arith, w.1))
