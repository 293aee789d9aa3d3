-- What points of one group have in common.
use Rattle.std.proofs.Common.{◌≡◌, ℕ, true, List}
use Rattle.series_id.specs.declared.attributes.Attribute.{Attribute}
use Rattle.series_id.specs.declared.kinds.Kind.{Kind}
use Rattle.series_id.proofs.Order.{equal_from}
use Rattle.series_id.proofs.Exact.{resource_exact, scope_exact, stream_exact}
use Rattle.metric_events.specs.DataPoint.{DataPoint}
use Rattle.out_texts.specs.declared.level.Level.TheVariants as level
use Rattle.out_texts.specs.Sharing.{same, shares}

abbrev pub resource_key : DataPoint → List Attribute
resource_key p = p.series.resource

abbrev pub scope_key : DataPoint → (List ℕ × List ℕ × List Attribute)
scope_key p = (p.series.scope_name, p.series.scope_version, p.series.scope_attrs)

abbrev pub metric_key : DataPoint → (List ℕ × List ℕ × Kind)
metric_key p = (p.series.name, p.series.unit, p.series.kind)

pub resource_one : (p q : DataPoint) → same level.Resource p q ≡ true
    → resource_key p ≡ resource_key q
unfolding shares
resource_one p q e = resource_exact p.series q.series (equal_from _ e)

pub scope_one : (p q : DataPoint) → same level.Scope p q ≡ true → scope_key p ≡ scope_key q
unfolding shares
scope_one p q e = let one = scope_exact p.series q.series (equal_from _ e) in
    λ i. (one.name i, one.version i, one.attrs i)

pub metric_one : (p q : DataPoint) → same level.Metric p q ≡ true → metric_key p ≡ metric_key q
unfolding shares
metric_one p q e = let one = stream_exact p.series q.series (equal_from _ e) in
    λ i. (one.name i, one.unit i, one.kind i)
