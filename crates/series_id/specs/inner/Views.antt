-- The identity that contracts see.
use Rattle.series_id.specs.declared.series.SeriesId.TheInside.{Inside}
use Rattle.series_id.specs.Identity.{Identity}

-- an identity, field by field
abbrev pub identity_of : Inside → Identity
identity_of s = record {
  resource = s.resource;
  scope_name = s.scope_name;
  scope_version = s.scope_version;
  scope_attrs = s.scope_attrs;
  name = s.name;
  unit = s.unit;
  kind = s.kind;
  attrs = s.attrs;
}
