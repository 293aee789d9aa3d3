-- The request that forwards points. Neighbours of one resource, scope or metric share its element.
use Rattle.std.specs.Prelude.{ℕ, List, map, codes}
use Rattle.serde_json.specs.Data.{Data, boolean, number, unsigned, string, array, object}
use Rattle.serde_json.specs.Data.{no_members, member}
use Rattle.serde_json.specs.View.{items_of}
use Rattle.serde_json.specs.Written.{compact_text}
use Rattle.series_id.specs.declared.kinds.Kind.{Kind}
use Rattle.series_id.specs.declared.kinds.Kind.TheVariants.{Sum, Histogram}
use Rattle.series_id.specs.Identity.{Identity}
use Rattle.metric_events.specs.DataPoint.{DataPoint}
use Rattle.out_texts.specs.declared.level.Level.TheVariants.{Resource, Scope, Metric}
use Rattle.out_texts.specs.Groups.{members, groups}
use Rattle.out_texts.specs.Sharing.{same}
use Rattle.out_texts.specs.Attributes.{attributes_value}
use Rattle.out_texts.specs.Points.{point_value}

-- a metric of this kind, named as the series x, with these data points
abbrev pub metric_of_kind : Kind → Identity → List Data → Data
metric_of_kind (Sum monotonic) x points = object (
    member (codes "name") (string x.name) (
    member (codes "sum") (object (
    member (codes "aggregationTemporality") (number (unsigned 1)) (
    member (codes "dataPoints") (array (items_of points)) (
    member (codes "isMonotonic") (boolean monotonic) no_members)))) (
    member (codes "unit") (string x.unit) no_members)))
metric_of_kind (Histogram bounds) x points = object (
    member (codes "histogram") (object (
    member (codes "aggregationTemporality") (number (unsigned 1)) (
    member (codes "dataPoints") (array (items_of points)) no_members))) (
    member (codes "name") (string x.name) (
    member (codes "unit") (string x.unit) no_members)))

-- the metric of the series x, with these points
unfoldable pub metric_value : Identity → List DataPoint → Data
metric_value x ps = metric_of_kind x.kind x (map point_value ps)

-- the scope of the series x, with the metrics of these points
unfoldable pub scope_value : Identity → List DataPoint → Data
scope_value x ps = object (
    member (codes "metrics") (array (items_of (map (λ g. metric_value g.0.series (members g))
    (groups (same Metric) ps)))) (
    member (codes "scope") (object (
    member (codes "attributes") (attributes_value x.scope_attrs) (
    member (codes "name") (string x.scope_name) (
    member (codes "version") (string x.scope_version) no_members)))) no_members))

-- the resource of the series x, with the scopes of these points
unfoldable pub resource_value : Identity → List DataPoint → Data
resource_value x ps = object (
    member (codes "resource") (object (member (codes "attributes")
    (attributes_value x.resource) no_members)) (
    member (codes "scopeMetrics") (array (items_of (map (λ g. scope_value g.0.series (members g))
    (groups (same Scope) ps)))) no_members))

-- the resources of these points
unfoldable pub request_value : List DataPoint → Data
request_value ps =
    object (member (codes "resourceMetrics") (array (items_of
    (map (λ g. resource_value g.0.series (members g)) (groups (same Resource) ps)))) no_members)

-- the text of the request
unfoldable pub request_text : List DataPoint → List ℕ
request_text ps = compact_text (request_value ps)
