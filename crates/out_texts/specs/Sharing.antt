-- When neighbours share an element of a request.
use Rattle.std.specs.Prelude.{Bool}
use Rattle.series_id.specs.Identity.{Identity}
use Rattle.series_id.specs.Sharing.{shares_resource, shares_scope, shares_stream}
use Rattle.metric_events.specs.DataPoint.{DataPoint}
use Rattle.out_texts.specs.declared.level.Level.{Level}
use Rattle.out_texts.specs.declared.level.Level.TheVariants.{Resource, Scope, Metric}

-- the same resource; the same name, version and attributes of the scope; the same name, unit and
-- kind of the metric
unfoldable pub shares : Level → Identity → Identity → Bool
shares Resource x y = shares_resource x y
shares Scope x y = shares_scope x y
shares Metric x y = shares_stream x y

-- whether the series of two points share the element of a level
abbrev pub same : Level → DataPoint → DataPoint → Bool
same level p q = shares level p.series q.series
