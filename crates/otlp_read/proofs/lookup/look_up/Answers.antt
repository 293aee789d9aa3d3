use Rattle.std.proofs.Common.{sym}
use Rattle.otlp_read.specs.inner.StreamViews.{stream_data}
use Rattle.otlp_read.proofs.LookupLemmas.{series_of_list}
use Rattle.otlp_read.proofs.lookup.look_up.Goals as goal

pub returns : goal.returns
returns c =
    series_of_list (stream_data c.args.stream) c.args.kind.now _ _ _ _ c.look_up_pairs.result
    (sym c.in_ok-values.ensures) c.in_ok-put_pairs.ensures c.sort_pairs.ensures
    c.look_up_pairs.ensures
