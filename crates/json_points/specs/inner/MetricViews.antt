-- Resource, scope and metric, without the references, and those of an identity.
use Rattle.std.specs.Prelude.{List}
use Rattle.series_id.specs.declared.attributes.Attribute.{Attribute}
use Rattle.series_id.specs.Identity.{Identity}
use Rattle.json_points.specs.declared.streams.Resource.{Resource as BorrowedResource}
use Rattle.json_points.specs.declared.streams.Scope.{Scope as BorrowedScope}
use Rattle.json_points.specs.declared.streams.Metric.{Metric as BorrowedMetric}
use Rattle.otlp_read.specs.Streams.{Scope, Stream}

abbrev pub resource_data : BorrowedResource → List Attribute
resource_data r = r.attributes.now

abbrev pub scope_data : BorrowedScope → Scope
scope_data s = record {
  resource = s.resource.now;
  name = s.name.now;
  version = s.version.now;
  attributes = s.attributes.now;
}

abbrev pub metric_data : BorrowedMetric → Stream
metric_data m = record { scope = scope_data m.scope; name = m.name.now; unit = m.unit.now }

-- the stream that an identity is of
abbrev pub stream_of : Identity → Stream
stream_of x = record {
  scope = record {
    resource = x.resource;
    name = x.scope_name;
    version = x.scope_version;
    attributes = x.scope_attrs;
  };
  name = x.name;
  unit = x.unit;
}
