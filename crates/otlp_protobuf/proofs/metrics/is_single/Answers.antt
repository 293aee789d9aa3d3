use Rattle.std.proofs.Common.{refl}
use Rattle.otlp_read.specs.Metrics.{is_single}
use Rattle.otlp_protobuf.specs.Points.{number_point, histogram_point}
use Rattle.otlp_protobuf.specs.Request.{other_message, other_point, sum_message, histogram_message}
use Rattle.otlp_protobuf.specs.inner.Views.{whole_data}
use Rattle.otlp_protobuf.proofs.RequestLemmas.{one_is}
use Rattle.otlp_protobuf.proofs.metrics.is_single.Goals as goal

pub returns : goal.returns
unfolding is_single
returns c =
    let parts = c.args.parts.now in
    rw (
      one_is other_message other_point (whole_data parts.gauge),
      one_is sum_message number_point (whole_data parts.sum),
      one_is histogram_message histogram_point (whole_data parts.histogram),
      one_is other_message other_point (whole_data parts.exponential),
      one_is other_message other_point (whole_data parts.summary),
      ← c.one_if.ensures.value,
      ← c.one_if-2.ensures.value,
      ← c.one_if-3.ensures.value,
      ← c.one_if-4.ensures.value,
      ← c.one_if-5.ensures.value,
    ) refl
