use Rattle.std.proofs.Common.{◌≡◌, map, drop}
use Rattle.series_id.specs.Sorting.{pair_of as pair_in}
use Rattle.otlp_read.specs.inner.RefViews.{pair_data}
use Rattle.otlp_read.proofs.lookup.are_pairs.Given as goal

abbrev pub invariant-loop-i : goal.invariant-loop-i
invariant-loop-i l = map pair_data (drop l.i l.pairs) ≡ map pair_in (drop l.i l.its)
    → map pair_data l.pairs ≡ map pair_in l.its
