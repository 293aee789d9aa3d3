-- The containers of a request, found again in its JSON.
use Rattle.std.proofs.Common.{◌≡◌, ℕ, List, [], ◌∷◌, map, true, Option, Some, None, option_map, Ok}
use Rattle.std.proofs.Common.{refl, ap, sym, ◌∙◌}
use Rattle.std.specs.Prelude.{codes}
use Rattle.std.specs.List.{list_all}
use Rattle.serde_json.specs.Data.{Data, null, boolean, number, string, array, object}
use Rattle.series_id.specs.declared.attributes.Attribute.{Attribute}
use Rattle.otlp_read.specs.declared.place.Place.{Place}
use Rattle.otlp_read.specs.declared.place.Place.TheVariants as place
use Rattle.otlp_read.specs.Attributes.{attributes_in}
use Rattle.otlp_read.specs.Containers.{is_object, objects, object_in}
use Rattle.otlp_read.specs.Fields.{field, present}
use Rattle.otlp_read.specs.Lists.{elements_in}
use Rattle.otlp_read.specs.Metrics.{part, parts, one_if as one_part, add_parts, metric}
use Rattle.otlp_read.specs.Reading.{each, scope_metrics, resource_metrics, body, reading}
use Rattle.otlp_read.specs.Streams.{Scope, inner}
use Rattle.otlp_read.specs.Tallies.{Tally, nothing, add_metric}
use Rattle.otlp_protobuf.specs.Wire.{fields_from, fields}
use Rattle.otlp_protobuf.specs.Fields.{contents, so_far, whole_at}
use Rattle.otlp_protobuf.specs.Members.{or_null, list_data}
use Rattle.otlp_protobuf.specs.Values.{key_value}
use Rattle.otlp_protobuf.specs.Points.{number_point_data, number_point, histogram_point_data}
use Rattle.otlp_protobuf.specs.Points.{histogram_point}
use Rattle.otlp_protobuf.specs.Request.{other_point, other_message, sum_message, histogram_message}
use Rattle.otlp_protobuf.specs.Request.{metric_message, scope_message, scope_metrics_message}
use Rattle.otlp_protobuf.specs.Request.{resource_message, resource_metrics_message, request_message}
use Rattle.otlp_protobuf.specs.inner.PartViews.{part_of, message_parts, one_if}
use Rattle.otlp_protobuf.specs.inner.StreamViews.{scope_from}
use Rattle.otlp_protobuf.proofs.StreamLemmas.{scope_is}
use Rattle.otlp_protobuf.proofs.ValueLemmas.{elements_are}

-- ---- lists of messages, and messages that may be absent

all_objects : (shows : List ℕ → Data) (bs : List (List ℕ))
    → ((b : List ℕ) → is_object (shows b) ≡ true) → list_all is_object (map shows bs) ≡ true
all_objects shows [] are = refl
all_objects shows (b ∷ bs) are = rw (are b) (all_objects shows bs are)

pub list_shown : (p : Place) (shows : List ℕ → Data) (bs : List (List ℕ))
    → ((b : List ℕ) → is_object (shows b) ≡ true)
    → objects p (Some (list_data (map shows bs))) ≡ Ok (map shows bs)
unfolding objects
list_shown p shows bs are = rw (elements_are (map shows bs), all_objects shows bs are) refl

is_present : (d : Data) → is_object d ≡ true → present (Some d) ≡ Some d
is_present null h = absurd cc
is_present (boolean b) h = refl
is_present (number n) h = refl
is_present (string s) h = refl
is_present (array ds) h = refl
is_present (object ms) h = refl

message_shown : (shows : List ℕ → Data) (w : Option (List ℕ))
    → ((b : List ℕ) → is_object (shows b) ≡ true)
    → present (Some (or_null (option_map shows w))) ≡ option_map shows w
message_shown shows None are = refl
message_shown shows (Some b) are = is_present (shows b) (are b)

object_shown : (p : Place) (shows : List ℕ → Data) (w : Option (List ℕ))
    → ((b : List ℕ) → is_object (shows b) ≡ true)
    → object_in p (option_map shows w) ≡ Ok (option_map shows w)
unfolding object_in
object_shown p shows None are = refl
object_shown p shows (Some b) are = rw (are b) refl

-- ---- each message is an object

is_request : (b : List ℕ) → is_object (request_message b) ≡ true
unfolding request_message
is_request b = refl

is_resource_metrics : (b : List ℕ) → is_object (resource_metrics_message b) ≡ true
unfolding resource_metrics_message
is_resource_metrics b = refl

is_resource : (b : List ℕ) → is_object (resource_message b) ≡ true
unfolding resource_message
is_resource b = refl

is_scope_metrics : (b : List ℕ) → is_object (scope_metrics_message b) ≡ true
unfolding scope_metrics_message
is_scope_metrics b = refl

is_scope : (b : List ℕ) → is_object (scope_message b) ≡ true
unfolding scope_message
is_scope b = refl

is_metric : (b : List ℕ) → is_object (metric_message b) ≡ true
unfolding metric_message
is_metric b = refl

is_other : (b : List ℕ) → is_object (other_message b) ≡ true
unfolding other_message
is_other b = refl

is_sum : (b : List ℕ) → is_object (sum_message b) ≡ true
unfolding sum_message
is_sum b = refl

is_histogram : (b : List ℕ) → is_object (histogram_message b) ≡ true
unfolding histogram_message
is_histogram b = refl

is_number_point : (b : List ℕ) → is_object (number_point b) ≡ true
unfolding number_point_data
is_number_point b = refl

is_histogram_point : (b : List ℕ) → is_object (histogram_point b) ≡ true
unfolding histogram_point_data
is_histogram_point b = refl

-- ---- the request

resources_at : (b : List ℕ) → field (codes "resourceMetrics") (request_message b)
    ≡ Some (list_data (map resource_metrics_message (contents 1 (fields b))))
unfolding field request_message
resources_at b = refl

body_is : (b : List ℕ) (t : Tally)
    → body (request_message b) t
    ≡ each resource_metrics (map resource_metrics_message (contents 1 (fields b))) t
unfolding body
body_is b t = rw (
  resources_at b,
  list_shown place.ResourceMetrics resource_metrics_message
      (contents 1 (fields b)) is_resource_metrics,
) refl

pub request_read : (b : List ℕ) (u : Tally)
    → each resource_metrics (map resource_metrics_message (contents 1 (fields b))) nothing ≡ Ok u
    → reading (request_message b) ≡ Ok u
unfolding reading
request_read b u h = rw (is_request b) (body_is b nothing ∙ h)

-- ---- a resource

resource_at : (b : List ℕ) → field (codes "resource") (resource_metrics_message b)
    ≡ option_map resource_message (whole_at 1 b)
unfolding field resource_metrics_message
resource_at b = message_shown resource_message (whole_at 1 b) is_resource

scopes_at : (b : List ℕ) → field (codes "scopeMetrics") (resource_metrics_message b)
    ≡ Some (list_data (map scope_metrics_message (contents 2 (fields b))))
unfolding field resource_metrics_message
scopes_at b = refl

resource_attributes : (w : Option (List ℕ))
    → attributes_in (inner (codes "attributes") (option_map resource_message w))
    ≡ attributes_in (Some (list_data (map key_value (contents 1 (fields (so_far w))))))
unfolding attributes_in inner field resource_message elements_in fields_from contents
resource_attributes None = refl
resource_attributes (Some b) = refl

pub resource_read : (b : List ℕ) (t u : Tally)
    → each (scope_metrics (attributes_in
    (Some (list_data (map key_value (contents 1 (fields (so_far (whole_at 1 b)))))))))
    (map scope_metrics_message (contents 2 (fields b))) t ≡ Ok u
    → resource_metrics (resource_metrics_message b) t ≡ Ok u
unfolding resource_metrics
resource_read b t u h =
    rw (
      resource_at b,
      object_shown place.Resource resource_message (whole_at 1 b) is_resource,
      scopes_at b,
      list_shown place.ScopeMetrics scope_metrics_message (contents 2 (fields b))
          is_scope_metrics,
      resource_attributes (whole_at 1 b),
    ) h

-- ---- a scope

scope_at : (b : List ℕ)
    → field (codes "scope") (scope_metrics_message b) ≡ option_map scope_message (whole_at 1 b)
unfolding field scope_metrics_message
scope_at b = message_shown scope_message (whole_at 1 b) is_scope

metrics_at : (b : List ℕ) → field (codes "metrics") (scope_metrics_message b)
    ≡ Some (list_data (map metric_message (contents 2 (fields b))))
unfolding field scope_metrics_message
metrics_at b = refl

scope_attributes : (w : Option (List ℕ))
    → attributes_in (inner (codes "attributes") (option_map scope_message w))
    ≡ attributes_in (Some (list_data (map key_value (contents 3 (fields (so_far w))))))
unfolding attributes_in inner field scope_message elements_in fields_from contents
scope_attributes None = refl
scope_attributes (Some b) = refl

pub scope_read : (above : Option (List Attribute)) (b : List ℕ) (t u : Tally)
    → each (metric (scope_from above (so_far (whole_at 1 b))
    (attributes_in (Some (list_data
    (map key_value (contents 3 (fields (so_far (whole_at 1 b))))))))))
    (map metric_message (contents 2 (fields b))) t ≡ Ok u
    → scope_metrics above (scope_metrics_message b) t ≡ Ok u
unfolding scope_metrics
scope_read above b t u h =
    rw (
      scope_at b,
      object_shown place.Scope scope_message (whole_at 1 b) is_scope,
      metrics_at b,
      list_shown place.Metrics metric_message (contents 2 (fields b)) is_metric,
      scope_attributes
          (whole_at 1 b),
      scope_is above (whole_at 1 b)
          (attributes_in (Some
          (list_data (map key_value (contents 3 (fields (so_far (whole_at 1 b)))))))),
    )
    h

-- ---- a metric

part_shown : (name : List ℕ) (d : Data) (whole point : List ℕ → Data) (w : Option (List ℕ))
    → field name d ≡ option_map whole w → ((b : List ℕ) → is_object (whole b) ≡ true)
    → ((b : List ℕ) → field (codes "dataPoints") (whole b)
    ≡ Some (list_data (map point (contents 1 (fields b)))))
    → ((b : List ℕ) → is_object (point b) ≡ true) → part name d ≡ Ok (part_of whole point w)
unfolding part object_in
part_shown name d whole point None at is points are = rw at refl
part_shown name d whole point (Some b) at is points are =
    rw (at, is b, points b, list_shown place.DataPoints point (contents 1 (fields b)) are) refl

gauge_at : (b : List ℕ)
    → field (codes "gauge") (metric_message b) ≡ option_map other_message (whole_at 5 b)
unfolding field metric_message
gauge_at b = message_shown other_message (whole_at 5 b) is_other

sum_at : (b : List ℕ)
    → field (codes "sum") (metric_message b) ≡ option_map sum_message (whole_at 7 b)
unfolding field metric_message
sum_at b = message_shown sum_message (whole_at 7 b) is_sum

histogram_at : (b : List ℕ)
    → field (codes "histogram") (metric_message b) ≡ option_map histogram_message (whole_at 9 b)
unfolding field metric_message
histogram_at b = message_shown histogram_message (whole_at 9 b) is_histogram

exponential_at : (b : List ℕ) → field (codes "exponentialHistogram") (metric_message b)
    ≡ option_map other_message (whole_at 10 b)
unfolding field metric_message
exponential_at b = message_shown other_message (whole_at 10 b) is_other

summary_at : (b : List ℕ)
    → field (codes "summary") (metric_message b) ≡ option_map other_message (whole_at 11 b)
unfolding field metric_message
summary_at b = message_shown other_message (whole_at 11 b) is_other

other_points : (b : List ℕ) → field (codes "dataPoints") (other_message b)
    ≡ Some (list_data (map other_point (contents 1 (fields b))))
unfolding field other_message
other_points b = refl

sum_points : (b : List ℕ) → field (codes "dataPoints") (sum_message b)
    ≡ Some (list_data (map number_point (contents 1 (fields b))))
unfolding field sum_message
sum_points b = refl

histogram_points : (b : List ℕ) → field (codes "dataPoints") (histogram_message b)
    ≡ Some (list_data (map histogram_point (contents 1 (fields b))))
unfolding field histogram_message
histogram_points b = refl

other_shown : (name b : List ℕ) (w : Option (List ℕ))
    → field name (metric_message b) ≡ option_map other_message w
    → part name (metric_message b) ≡ Ok (part_of other_message other_point w)
other_shown name b w at = part_shown name (metric_message b) other_message other_point w at is_other
    other_points (λ _. refl)

parts_are : (b : List ℕ) → parts (metric_message b) ≡ Ok (message_parts b)
unfolding parts
parts_are b =
    rw (
      other_shown (codes "gauge") b (whole_at 5 b) (gauge_at b),
      part_shown (codes "sum") (metric_message b) sum_message number_point (whole_at 7 b) (sum_at b)
          is_sum sum_points is_number_point,
      part_shown (codes "histogram") (metric_message b) histogram_message histogram_point
          (whole_at 9 b) (histogram_at b) is_histogram histogram_points is_histogram_point,
      other_shown (codes "exponentialHistogram") b (whole_at 10 b) (exponential_at b),
      other_shown (codes "summary") b (whole_at 11 b) (summary_at b),
    ) refl

pub metric_read : (scope : Option Scope) (b : List ℕ) (t u : Tally)
    → u ≡ add_parts scope (metric_message b) (message_parts b) (add_metric t)
    → metric scope (metric_message b) t ≡ Ok u
unfolding metric
metric_read scope b t u h = rw (parts_are b) (ap (λ (v : Tally). Ok v) (sym h))

pub one_is : (whole point : List ℕ → Data) (w : Option (List ℕ))
    → one_part (part_of whole point w) ≡ one_if w
one_is whole point None = refl
one_is whole point (Some b) = refl
