use Rattle.std.proofs.Common.{option_map, ap, ◌∙◌}
use Rattle.std.proofs.lemmas.Result.{on_ok_weaker}
use Rattle.otlp_read.specs.Metrics.{add_parts}
use Rattle.otlp_read.specs.Tallies.{tally, add_metric}
use Rattle.otlp_protobuf.specs.Request.{metric_message}
use Rattle.otlp_protobuf.specs.inner.PartViews.{parts_data}
use Rattle.otlp_protobuf.specs.inner.StreamViews.{scope_data}
use Rattle.otlp_protobuf.proofs.RequestLemmas.{metric_read}
use Rattle.otlp_protobuf.proofs.metrics.metric.Goals as goal

pub returns : goal.returns
returns c =
    let scope = option_map scope_data c.args.scope in
    let shown = metric_message c.args.bytes.now in
    on_ok_weaker c.add_parts.result (λ h.
    metric_read scope c.args.bytes.now (tally c.args.reader.now.out) _
    (h ∙ ap (add_parts scope shown (parts_data c.in_ok-parts.parts)) c.add_metric.ensures
    ∙ ap (λ ps. add_parts scope shown ps (add_metric (tally c.args.reader.now.out)))
    c.in_ok-parts.ensures)) c.add_parts.ensures
