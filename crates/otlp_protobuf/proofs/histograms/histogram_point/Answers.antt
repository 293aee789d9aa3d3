use Rattle.std.proofs.Common.{◌∙◌, ap, map, sym}
use Rattle.std.specs.Prelude.{option_and_then}
use Rattle.otlp_read.specs.Integers.{unsigned_64}
use Rattle.otlp_read.specs.Lists.{all_of}
use Rattle.otlp_read.specs.Streams.{series_of}
use Rattle.otlp_read.proofs.PointLemmas.{allowed}
use Rattle.otlp_protobuf.specs.Wire.{fields}
use Rattle.otlp_protobuf.specs.Fields.{contents, numbers}
use Rattle.otlp_protobuf.specs.Members.{unsigned_data, double_data}
use Rattle.otlp_protobuf.specs.Values.{key_value}
use Rattle.otlp_protobuf.specs.declared.kind_ref.KindRef.TheVariants.{Histogram}
use Rattle.otlp_protobuf.specs.inner.HistogramViews.{histogram_fields_data}
use Rattle.otlp_protobuf.specs.inner.KeptViews.{kept_messages}
use Rattle.otlp_protobuf.specs.inner.KindViews.{bounds_kind, kind_data}
use Rattle.otlp_protobuf.specs.inner.Sets.{said_list}
use Rattle.otlp_protobuf.specs.inner.StreamViews.{stream_data}
use Rattle.otlp_protobuf.proofs.HistogramLemmas.{fields_said, no_fields, no_buckets, no_series}
use Rattle.otlp_protobuf.proofs.HistogramLemmas.{has_series, series_is_histogram}
use Rattle.otlp_protobuf.proofs.KeptLemmas.{share_known}
use Rattle.otlp_protobuf.proofs.histograms.histogram_point.Goals as goal

pub series_of-requires : goal.series_of-requires
series_of-requires c =
    share_known c.share_if-known.result (stream_data c.args.stream.now)
    (kind_data (Histogram c.of.result)) c.gather_histogram-is_known.result.1
    (kept_messages c.next-next.result)
    (contents 9 (fields c.args.bytes.now)) c.share_if-known.ensures
    (λ t. sym c.run_of.ensures ∙ c.gather_histogram-is_known.ensures.known t)

pub shared_histogram-requires : goal.shared_histogram-requires
shared_histogram-requires c =
    series_is_histogram _ _ _ _ (sym c.in-Some-3.is ∙ c.in_ok-series.ensures)

pub returns-in_default : goal.returns-in_default
returns-in_default c =
    let all = fields c.args.bytes.now in
    no_fields _ _ _ _ _ (fields_said c.args.bytes.now _ _ (map unsigned_data (numbers 6 all))
    (map double_data (numbers 7 all)) (map key_value (contents 9 all))
    c.gather_histogram-is_known.ensures.said c.in_default.ensures)

pub returns-in_default-2 : goal.returns-in_default-2
returns-in_default-2 c =
    let all = fields c.args.bytes.now in
    no_buckets _ _ _ _ _ (histogram_fields_data c.in-Some.fields)
    (fields_said c.args.bytes.now _ _ (map unsigned_data (numbers 6 all))
    (map double_data (numbers 7 all)) (map key_value (contents 9 all))
    c.gather_histogram-is_known.ensures.said c.in-Some.ensures)
    ((rw c.in_default-2.is at c.in_ok-buckets.ensures)
    ∙ ap (λ ns. all_of unsigned_64 (map unsigned_data ns)) c.of-2.ensures)

pub returns-in_default-3 : goal.returns-in_default-3
returns-in_default-3 c =
    let all = fields c.args.bytes.now in
    let known = c.in_ok-series.ensures
    ∙ ap (λ ns. option_and_then (λ k. series_of (stream_data c.args.stream.now) k
    (said_list (contents 9 all))) (bounds_kind (map double_data ns))) c.of.ensures in
    no_series _ _ _ _ _ (histogram_fields_data c.in-Some.fields) c.in-Some-2.buckets.items
    (fields_said c.args.bytes.now _ _ (map unsigned_data (numbers 6 all))
    (map double_data (numbers 7 all)) (map key_value (contents 9 all))
    c.gather_histogram-is_known.ensures.said c.in-Some.ensures)
    ((rw c.in-Some-2.is at c.in_ok-buckets.ensures)
    ∙ ap (λ ns. all_of unsigned_64 (map unsigned_data ns)) c.of-2.ensures)
    (sym c.in_default-3.is ∙ known)

pub returns : goal.returns
returns c =
    let all = fields c.args.bytes.now in
    let known = c.in_ok-series.ensures
    ∙ ap (λ ns. option_and_then (λ k. series_of (stream_data c.args.stream.now) k
    (said_list (contents 9 all))) (bounds_kind (map double_data ns))) c.of.ensures in
    let e = allowed c.shared_histogram.result _ _ _ c.shared_histogram.ensures.value
    c.shared_histogram.ensures.none c.shared_histogram.ensures.fault c.in_ok-point.ensures.ok in
    has_series _ _ _ _ _ (histogram_fields_data c.in-Some.fields) c.in-Some-2.buckets.items _ _
    (fields_said c.args.bytes.now _ _ (map unsigned_data (numbers 6 all))
    (map double_data (numbers 7 all)) (map key_value (contents 9 all))
    c.gather_histogram-is_known.ensures.said c.in-Some.ensures)
    ((rw c.in-Some-2.is at c.in_ok-buckets.ensures)
    ∙ ap (λ ns. all_of unsigned_64 (map unsigned_data ns)) c.of-2.ensures)
    (sym c.in-Some-3.is ∙ known) (c.in_ok-point.ensures.point ∙ e)
