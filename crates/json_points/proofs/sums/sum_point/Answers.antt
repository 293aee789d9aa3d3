use Rattle.std.proofs.Common.{refl, ◌∙◌, sym, subst, rules, w64}
use Rattle.std.proofs.lemmas.Int.{to_z-of_z}
use Rattle.std.specs.Prelude.{FitsSigned}
use Rattle.metric_events.specs.PointFaults.{IsSum}
use Rattle.otlp_read.specs.Sums.{sum_point}
use Rattle.otlp_read.proofs.PointLemmas.{kind_of_known, allowed_always}
use Rattle.json_points.proofs.PartLemmas.{said}
use Rattle.json_points.proofs.sums.sum_point.Goals as goal

pub shared_sum-point-requires : goal.shared_sum-point-requires
shared_sum-point-requires c =
    subst IsSum (kind_of_known _ _ _ _ (sym c.in_ok-series.ensures ∙ c.in-Some-2.is)) tt

pub returns : goal.returns
unfolding sum_point
returns c =
    let f : FitsSigned w64 c.in-Some.fields.value = search rules in
    let e = simp to_z-of_z at (allowed_always c.shared_sum-point.result
    _ _ c.shared_sum-point.ensures.value c.shared_sum-point.ensures.none
    c.shared_sum-point.ensures.fault) in
    let has = c.parts_of-parts.ensures in
    let read = c.in-Some.ensures ∙ said _ _ has in
    rw (← read, ← has.attributes, ← c.in_ok-series.ensures, c.in-Some-2.is) (c.ok.ensures.value ∙ e)

pub returns-in_default : goal.returns-in_default
unfolding sum_point
returns-in_default c =
    let read = c.in_default.ensures ∙ said _ _ c.parts_of-parts.ensures in
    rw (← read) refl
