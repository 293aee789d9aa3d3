-- The parts of an identity that points share: resource, scope and metric; and series.
use Rattle.std.specs.Prelude.{ℕ, Bool, List, Option, Some, None, if◌then◌else◌, codes}
use Rattle.std.specs.Result.{result_ok}
use Rattle.serde_json.specs.Data.{Data}
use Rattle.series_id.specs.declared.attributes.Attribute.{Attribute}
use Rattle.series_id.specs.declared.kinds.Kind.{Kind}
use Rattle.series_id.specs.Identity.{Identity}
use Rattle.series_id.specs.Checks.{checked_identity}
use Rattle.otlp_read.specs.Fields.{field, text_in, truth_in, is_delta}
use Rattle.otlp_read.specs.Attributes.{attributes_in}
use Rattle.otlp_read.specs.Lists.{◌>>=◌}

-- the resource's attributes, and the scope
pub record Scope : Type 0 where
  pub resource : List Attribute
  pub name : List ℕ
  pub version : List ℕ
  pub attributes : List Attribute

-- a metric of a scope
pub record Stream : Type 0 where
  pub scope : Scope
  pub name : List ℕ
  pub unit : List ℕ

-- the field of this name in an object that may be absent
unfoldable pub inner : List ℕ → Option Data → Option Data
inner name found = found >>= field name

-- name, version and attributes of a scope, with its resource's attributes
unfoldable pub scope_in : Option (List Attribute) → Option Data → Option (List Attribute)
    → Option Scope
scope_in resource scope attributes = do
  above ← resource
  name ← text_in (inner (codes "name") scope)
  version ← text_in (inner (codes "version") scope)
  own ← attributes
  Some (record { resource = above; name = name; version = version; attributes = own })

-- name and unit of a metric whose data have delta temporality
unfoldable pub stream_in : Option Scope → Data → Data → Option Stream
stream_in scope metric part = do
  above ← scope
  name ← text_in (field (codes "name") metric)
  unit ← text_in (field (codes "unit") metric)
  if is_delta (field (codes "aggregationTemporality") part)
      then Some (record { scope = above; name = name; unit = unit })
      else None

-- a stream of sums, and whether they are monotonic
pub record SumStream : Type 0 where
  pub stream : Stream
  pub monotonic : Bool

-- the same for a sum
unfoldable pub sum_stream_in : Option Scope → Data → Data → Option SumStream
sum_stream_in scope metric sum = do
  stream ← stream_in scope metric sum
  monotonic ← truth_in (field (codes "isMonotonic") sum)
  Some (record { stream = stream; monotonic = monotonic })

-- the series of a stream with this kind and these attributes
abbrev pub identity_in : Stream → Kind → List Attribute → Identity
identity_in stream kind attributes = record {
  resource = stream.scope.resource;
  scope_name = stream.scope.name;
  scope_version = stream.scope.version;
  scope_attrs = stream.scope.attributes;
  name = stream.name;
  unit = stream.unit;
  kind = kind;
  attrs = attributes;
}

-- that series, if its texts are within their limit
unfoldable pub series_in : Stream → Kind → List Attribute → Option Identity
series_in stream kind attributes = result_ok (checked_identity (identity_in stream kind attributes))

-- the series of a stream with this kind and this attribute list
unfoldable pub series_of : Stream → Kind → Option Data → Option Identity
series_of stream kind found = attributes_in found >>= series_in stream kind
