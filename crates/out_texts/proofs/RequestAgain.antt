-- Reading a request that was written.
use Rattle.std.proofs.Common.{◌≡◌, ℕ, ◌≤◌, true, List, length, map, Some, refl, ap, ◌∙◌, subst}
use Rattle.std.specs.List.{AllByRecursion}
use Rattle.std.proofs.lemmas.Bool.{le-leb}
use Rattle.series_id.specs.declared.limits.TheConstants.{MAX_TEXT}
use Rattle.series_id.specs.declared.attributes.Attribute.{Attribute}
use Rattle.series_id.specs.declared.kinds.Kind.{Kind}
use Rattle.series_id.specs.declared.kinds.Kind.TheVariants.{Sum, Histogram}
use Rattle.series_id.specs.Identity.{Identity}
use Rattle.series_id.specs.Attributes.{IsAttrSet}
use Rattle.series_id.proofs.Refusals.{each_more}
use Rattle.metric_events.specs.DataPoint.{DataPoint, IsMerged}
use Rattle.otlp_read.specs.Fields.{field, text_in}
use Rattle.otlp_read.specs.Containers.{is_object, objects, object_in}
use Rattle.otlp_read.specs.Streams.{Scope, inner, scope_in}
use Rattle.otlp_read.specs.Tallies.{Tally, nothing}
use Rattle.otlp_read.specs.Metrics.{metric}
use Rattle.otlp_read.specs.Reading.{each, scope_metrics, resource_metrics, body, reading}
use Rattle.otlp_read.proofs.TextLemmas.{says}
use Rattle.out_texts.specs.declared.level.Level.TheVariants as level
use Rattle.out_texts.specs.Groups.{members, groups}
use Rattle.out_texts.specs.Attributes.{attributes_value}
use Rattle.out_texts.specs.Sharing.{same}
use Rattle.out_texts.specs.Points.{point_of_kind, point_value}
use Rattle.out_texts.specs.Request.{metric_of_kind, metric_value, scope_value, resource_value}
use Rattle.out_texts.specs.Request.{request_value}
use Rattle.out_texts.specs.Back.{ReadsBack}
use Rattle.out_texts.specs.inner.Back.{IsTextOf}
use Rattle.out_texts.proofs.Sharing.{resource_key, scope_key, metric_key, resource_one, scope_one}
use Rattle.out_texts.proofs.Sharing.{metric_one}
use Rattle.out_texts.proofs.Grouping.{Adds, Shares, groups_flat, groups_share, each_group}
use Rattle.out_texts.proofs.Grouping.{elements_of_items, all_objects}
use Rattle.out_texts.proofs.AttributesAgain.{attributes_again}
use Rattle.out_texts.proofs.SumsAgain.{IsOf, stream_below, sum_metric_again}
use Rattle.out_texts.proofs.HistogramsAgain.{histogram_metric_again}

-- ---- objects

point_is_object : (p : DataPoint) → is_object (point_value p) ≡ true
unfolding point_value
point_is_object p = by p.series.kind
  where
    by : (k : Kind) → is_object (point_of_kind k p) ≡ true
    by (Sum m) = refl
    by (Histogram bs) = refl

metric_is_object : (x : Identity) (ps : List DataPoint) → is_object (metric_value x ps) ≡ true
unfolding metric_value
metric_is_object x ps = by x.kind
  where
    by : (k : Kind) → is_object (metric_of_kind k x (map point_value ps)) ≡ true
    by (Sum m) = refl
    by (Histogram bs) = refl

scope_is_object : (x : Identity) (ps : List DataPoint) → is_object (scope_value x ps) ≡ true
unfolding scope_value
scope_is_object x ps = refl

resource_is_object : (x : Identity) (ps : List DataPoint) → is_object (resource_value x ps) ≡ true
unfolding resource_value
resource_is_object x ps = refl

-- ---- a metric

kind_again : (x : Identity) (scope : Scope) (k : Kind) (ps : List DataPoint) (t : Tally)
    → length x.name ≤ MAX_TEXT → length x.unit ≤ MAX_TEXT
    → AllByRecursion (IsOf (stream_below scope x) k) ps
    → Adds ps t (metric (Some scope) (metric_of_kind k x (map point_value ps)) t)
kind_again x scope (Sum m) ps t name unit h =
    sum_metric_again x scope m ps t name unit (all_objects point_value point_is_object ps) h
kind_again x scope (Histogram bs) ps t name unit h =
    histogram_metric_again x scope bs ps t name unit (all_objects point_value point_is_object ps) h

metric_again : (x : Identity) (scope : Scope) (ps : List DataPoint) (t : Tally)
    → length x.name ≤ MAX_TEXT → length x.unit ≤ MAX_TEXT
    → AllByRecursion (IsOf (stream_below scope x) x.kind) ps
    → Adds ps t (metric (Some scope) (metric_value x ps) t)
unfolding metric_value
metric_again x scope ps t name unit h = kind_again x scope x.kind ps t name unit h

-- ---- a scope

abbrev scope_below : List Attribute → Identity → Scope
scope_below resource x = record {
  resource = resource;
  name = x.scope_name;
  version =
      x.scope_version;
  attributes = x.scope_attrs;
}

scope_opens : (resource : List Attribute) (x : Identity) (ps : List DataPoint) (t : Tally)
    → length x.scope_name ≤ MAX_TEXT → length x.scope_version ≤ MAX_TEXT → IsAttrSet x.scope_attrs
    → scope_metrics (Some resource) (scope_value x ps) t
    ≡ each (metric (Some (scope_below resource x)))
    (map (λ g. metric_value g.0.series (members g)) (groups (same level.Metric) ps)) t
unfolding scope_metrics scope_value object_in objects field scope_in inner text_in attributes_value
scope_opens resource x ps t name version set =
    rw (
      elements_of_items
          (map (λ g. metric_value g.0.series (members g)) (groups (same level.Metric) ps)),
      all_objects (λ g. metric_value g.0.series (members g))
          (λ g. metric_is_object g.0.series (members g)) (groups (same level.Metric) ps),
      attributes_again x.scope_attrs set,
      le-leb (length x.scope_name) MAX_TEXT name,
      le-leb (length x.scope_version) MAX_TEXT version,
    ) refl

-- a point below a resource
abbrev IsBelow : List Attribute → DataPoint → Type 0
IsBelow resource p = IsMerged p × (resource_key p ≡ resource)

-- a point below a resource and a scope
abbrev IsWithin : List Attribute → Identity → DataPoint → Type 0
IsWithin resource x p =
    IsBelow resource p × (scope_key p ≡ (x.scope_name, x.scope_version, x.scope_attrs))

placed : (resource : List Attribute) (x y : Identity) (p : DataPoint)
    → IsWithin resource x p × (metric_key p ≡ (y.name, y.unit, y.kind))
    → IsOf (stream_below (scope_below resource x) y) y.kind p
placed resource x y p h = record {
  made = h.0.0.0;
  stream = λ i. record {
    scope = record {
      resource = h.0.0.1 i;
      name = (h.0.1 i).0;
      version =
          (h.0.1 i).1;
      attributes = (h.0.1 i).2;
    };
    name = (h.1 i).0;
    unit = (h.1 i).1;
  };
  kind = λ i. (h.1 i).2;
}

metric_group_again : (resource : List Attribute) (x : Identity) (g : DataPoint × List DataPoint)
    → Shares metric_key (IsWithin resource x) g → (t : Tally)
    → Adds (members g) t
    (metric (Some (scope_below resource x)) (metric_value g.0.series (members g)) t)
metric_group_again resource x g h t =
    let made = h.0.0.0.0 in
    metric_again g.0.series (scope_below resource x) (members g) t made.named.name made.named.unit
    (each_more (λ p. IsWithin resource x p × (metric_key p ≡ metric_key g.0))
    (IsOf (stream_below (scope_below resource x) g.0.series) g.0.series.kind)
    (placed resource x g.0.series) (members g) h)

scope_group_again : (resource : List Attribute) (g : DataPoint × List DataPoint)
    → Shares scope_key (IsBelow resource) g → (t : Tally)
    → Adds (members g) t (scope_metrics (Some resource) (scope_value g.0.series (members g)) t)
scope_group_again resource g h t =
    let made = h.0.0.0 in
    let inside = each_group (metric (Some (scope_below resource g.0.series)))
    (λ k. metric_value k.0.series (members k))
    (Shares metric_key (IsWithin resource g.0.series))
    (metric_group_again resource g.0.series)
    (groups (same level.Metric) (members g))
    (groups_share metric_key (same level.Metric) metric_one (IsWithin resource g.0.series)
    (members g) h) t in
    rw (scope_opens resource g.0.series (members g) t made.named.scope_name made.named.scope_version
    made.named.scope_attrs)
    (subst (λ qs. Adds qs t (each (metric (Some (scope_below resource g.0.series)))
    (map (λ k. metric_value k.0.series (members k)) (groups (same level.Metric) (members g)))
    t)) (groups_flat (same level.Metric) (members g)) inside)

-- ---- a resource

resource_opens : (x : Identity) (ps : List DataPoint) (t : Tally) → IsAttrSet x.resource
    → resource_metrics (resource_value x ps) t
    ≡ each (scope_metrics (Some x.resource))
    (map (λ g. scope_value g.0.series (members g)) (groups (same level.Scope) ps)) t
unfolding resource_metrics resource_value object_in objects field inner attributes_value
resource_opens x ps t set =
    rw (
      elements_of_items
          (map (λ g. scope_value g.0.series (members g)) (groups (same level.Scope) ps)),
      all_objects (λ g. scope_value g.0.series (members g))
          (λ g. scope_is_object g.0.series (members g)) (groups (same level.Scope) ps),
      attributes_again x.resource set,
    ) refl

resource_group_again : (g : DataPoint × List DataPoint) → Shares resource_key IsMerged g
    → (t : Tally)
    → Adds (members g) t (resource_metrics (resource_value g.0.series (members g)) t)
resource_group_again g h t =
    let made = h.0.0 in
    let resource = g.0.series.resource in
    let inside = each_group (scope_metrics (Some resource))
    (λ k. scope_value k.0.series (members k)) (Shares scope_key (IsBelow resource))
    (scope_group_again resource)
    (groups (same level.Scope) (members g))
    (groups_share scope_key (same level.Scope) scope_one (IsBelow resource) (members g) h) t in
    rw (resource_opens g.0.series (members g) t made.named.resource)
    (subst (λ qs. Adds qs t (each (scope_metrics (Some resource))
    (map (λ k. scope_value k.0.series (members k)) (groups (same level.Scope) (members g))) t))
    (groups_flat (same level.Scope) (members g)) inside)

-- ---- the request

request_opens : (ps : List DataPoint)
    → reading (request_value ps) ≡ each resource_metrics
    (map (λ g. resource_value g.0.series (members g)) (groups (same level.Resource) ps)) nothing
unfolding reading request_value body objects field
request_opens ps =
    rw (
      elements_of_items (map (λ g. resource_value g.0.series (members g))
          (groups (same level.Resource) ps)),
      all_objects (λ g. resource_value g.0.series (members g))
          (λ g. resource_is_object g.0.series (members g)) (groups (same level.Resource) ps),
    ) refl

-- the points that are written are read again, in order, and none is foreign
pub request_again : (ps : List DataPoint) → AllByRecursion IsMerged ps
    → Adds ps nothing (reading (request_value ps))
request_again ps h =
    let inside = each_group resource_metrics (λ k. resource_value k.0.series (members k))
    (Shares resource_key IsMerged) resource_group_again
    (groups (same level.Resource) ps)
    (groups_share resource_key (same level.Resource) resource_one IsMerged ps h) nothing in
    rw (request_opens ps)
    (subst (λ qs. Adds qs nothing (each resource_metrics
    (map (λ k. resource_value k.0.series (members k)) (groups (same level.Resource) ps))
    nothing)) (groups_flat (same level.Resource) ps) inside)

-- the same of a text of the request
pub text_again : (ps : List DataPoint) (bytes : List ℕ) → AllByRecursion IsMerged ps
    → IsTextOf (request_value ps) bytes → ReadsBack bytes ps
text_again ps bytes h is =
    let back = request_again ps h in
    (back.0, says bytes (request_value ps) is.0 is.1 ∙ ap (λ r. Some r) back.1)
