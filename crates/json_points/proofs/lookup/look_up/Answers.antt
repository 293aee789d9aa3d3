use Rattle.json_points.specs.inner.Slots.{slot_data}
use Rattle.json_points.specs.inner.StreamViews.{stream_data}
use Rattle.json_points.proofs.PairLemmas.{series_moved}
use Rattle.json_points.proofs.lookup.look_up.Goals as goal

pub returns : goal.returns
returns c =
    series_moved (stream_data c.args.stream) c.args.kind.now (slot_data c.args.found.now)
    _ _ c.look_up_pairs.result c.in_ok-count.ensures.pairs c.sort_pairs.ensures
    c.look_up_pairs.ensures
