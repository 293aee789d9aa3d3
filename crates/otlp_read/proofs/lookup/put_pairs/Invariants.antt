use Rattle.std.proofs.Common.{◌≡◌, map, take, drop}
use Rattle.serde_json.specs.View.{view}
use Rattle.otlp_read.specs.Lists.{all_of}
use Rattle.otlp_read.specs.Attributes.{pair_of}
use Rattle.otlp_read.specs.inner.RefViews.{pair_data}
use Rattle.otlp_read.proofs.ListLemmas.{with_front}
use Rattle.otlp_read.proofs.lookup.put_pairs.Given as goal

abbrev pub invariant-loop-i : goal.invariant-loop-i
invariant-loop-i l = with_front (map pair_data (take l.i l.room))
    (all_of pair_of (map view (drop l.i l.values))) ≡ all_of pair_of (map view l.values)
