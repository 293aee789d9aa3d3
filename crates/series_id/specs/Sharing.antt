-- What two series share: a resource, a scope, a stream.
use Rattle.std.specs.Prelude.{◌≡◌, Bool}
use Rattle.std.specs.Ordering.{is_eq}
use Rattle.series_id.specs.Identity.{Identity}
use Rattle.series_id.specs.Order.{resource_cmp, scope_cmp, stream_cmp}

-- the same resource attributes
abbrev pub HasOneResource : Identity → Identity → Type 0
HasOneResource x y = x.resource ≡ y.resource

-- the same scope: name, version and attributes
pub record HasOneScope (x y : Identity) : Type 0 where
  pub name : x.scope_name ≡ y.scope_name
  pub version : x.scope_version ≡ y.scope_version
  pub attrs : x.scope_attrs ≡ y.scope_attrs

-- the same stream: the metric's name, unit and kind
pub record HasOneStream (x y : Identity) : Type 0 where
  pub name : x.name ≡ y.name
  pub unit : x.unit ≡ y.unit
  pub kind : x.kind ≡ y.kind

-- whether two series share their resource, their scope, their stream
abbrev pub shares_resource : Identity → Identity → Bool
shares_resource x y = is_eq (resource_cmp x y)

abbrev pub shares_scope : Identity → Identity → Bool
shares_scope x y = is_eq (scope_cmp x y)

abbrev pub shares_stream : Identity → Identity → Bool
shares_stream x y = is_eq (stream_cmp x y)
