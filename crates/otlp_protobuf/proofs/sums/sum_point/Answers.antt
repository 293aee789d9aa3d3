use Rattle.std.proofs.Common.{◌∙◌, Some, map, sym, subst, rules, w64}
use Rattle.std.proofs.lemmas.Int.{to_z-of_z}
use Rattle.std.specs.Prelude.{FitsSigned}
use Rattle.series_id.specs.declared.kinds.Kind.TheVariants.{Sum}
use Rattle.metric_events.specs.PointFaults.{IsSum}
use Rattle.otlp_read.proofs.PointLemmas.{kind_of_known, allowed_always}
use Rattle.otlp_protobuf.specs.Wire.{fields}
use Rattle.otlp_protobuf.specs.Fields.{contents}
use Rattle.otlp_protobuf.specs.Values.{key_value}
use Rattle.otlp_protobuf.specs.inner.KeptViews.{kept_messages}
use Rattle.otlp_protobuf.specs.inner.StreamViews.{stream_data}
use Rattle.otlp_protobuf.specs.inner.SumViews.{sum_fields_data}
use Rattle.otlp_protobuf.proofs.KeptLemmas.{share_known}
use Rattle.otlp_protobuf.proofs.SumLemmas.{fields_said, no_fields, no_series, has_series}
use Rattle.otlp_protobuf.proofs.sums.sum_point.Goals as goal

pub series_of-requires : goal.series_of-requires
series_of-requires c =
    share_known c.share_if-known.result (stream_data c.args.sum.now.stream)
    (Some (Sum c.args.sum.now.monotonic)) c.gather_number-is_known.result.1
    (kept_messages c.next-next.result)
    (contents 7 (fields c.args.bytes.now)) c.share_if-known.ensures
    (λ t. sym c.run_of.ensures ∙ c.gather_number-is_known.ensures.known t)

pub shared_sum-point-requires : goal.shared_sum-point-requires
shared_sum-point-requires c =
    subst IsSum (kind_of_known _ _ _ _ (sym c.in_ok-series.ensures ∙ c.in-Some-2.is)) tt

pub returns-in_default : goal.returns-in_default
returns-in_default c =
    no_fields _ _ _ (fields_said c.args.bytes.now
    _ _ (map key_value (contents 7 (fields c.args.bytes.now)))
    c.gather_number-is_known.ensures.said c.in_default.ensures)

pub returns-in_default-2 : goal.returns-in_default-2
returns-in_default-2 c =
    no_series _ _ _ (sum_fields_data c.in-Some.fields)
    (fields_said c.args.bytes.now _ _ (map key_value (contents 7 (fields c.args.bytes.now)))
    c.gather_number-is_known.ensures.said c.in-Some.ensures)
    (sym c.in_ok-series.ensures ∙ c.in_default-2.is)

pub returns : goal.returns
returns c =
    let f : FitsSigned w64 c.in-Some.fields.value = search rules in
    let e = simp to_z-of_z at (allowed_always c.shared_sum-point.result
    _ _ c.shared_sum-point.ensures.value c.shared_sum-point.ensures.none
    c.shared_sum-point.ensures.fault) in
    has_series _ _ _ (sum_fields_data c.in-Some.fields) _ _
    (fields_said c.args.bytes.now _ _ (map key_value (contents 7 (fields c.args.bytes.now)))
    c.gather_number-is_known.ensures.said c.in-Some.ensures)
    (sym c.in_ok-series.ensures ∙ c.in-Some-2.is)
    (c.ok.ensures.value ∙ e)
