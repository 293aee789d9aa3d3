use Rattle.otlp_protobuf.specs.inner.KindViews.{kind_data}
use Rattle.otlp_protobuf.specs.inner.StreamViews.{stream_data}
use Rattle.otlp_protobuf.proofs.KeptLemmas.{series_known}
use Rattle.otlp_protobuf.proofs.lookup.is_series.Goals as goal

pub returns : goal.returns
returns c = record {
  only = λ found whole are same.
      series_known (stream_data c.args.stream.now) (kind_data c.args.kind.now) found
      c.args.kept.now.series whole (c.is_in_stream.ensures.only c.if-not-is_in_stream.false)
      (c.is_of_kind.ensures.only whole.kind same) are;
}
