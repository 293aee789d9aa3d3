use Rattle.std.proofs.Common.{sym, ◌∙◌}
use Rattle.otlp_protobuf.specs.inner.KindViews.{attributes_data, kind_data}
use Rattle.otlp_protobuf.specs.inner.Sets.{said_list}
use Rattle.otlp_protobuf.specs.inner.StreamViews.{stream_data}
use Rattle.otlp_protobuf.proofs.KeptLemmas.{series_kind, series_parts}
use Rattle.otlp_protobuf.proofs.streams.other_series.Goals as goal

pub keep-requires-clause-kind : goal.keep-requires-clause-kind
keep-requires-clause-kind c =
    series_kind (stream_data c.args.stream.now) (kind_data c.args.kind)
    (said_list (attributes_data c.args.attributes)) c.in-Some-2.series
    (sym c.in_ok-series.ensures ∙ c.in-Some-2.is)

pub keep-requires-clause-stream : goal.keep-requires-clause-stream
keep-requires-clause-stream c =
    (series_parts (stream_data c.args.stream.now) (kind_data c.args.kind)
    (said_list (attributes_data c.args.attributes)) c.in-Some-2.series
    (sym c.in_ok-series.ensures ∙ c.in-Some-2.is)).resource

pub keep-requires-clause-attributes : goal.keep-requires-clause-attributes
keep-requires-clause-attributes c =
    (series_parts (stream_data c.args.stream.now) (kind_data c.args.kind)
    (said_list (attributes_data c.args.attributes)) c.in-Some-2.series
    (sym c.in_ok-series.ensures ∙ c.in-Some-2.is)).attributes
