use Rattle.std.proofs.Common.{◌≡◌, map, drop}
use Rattle.series_id.specs.Sorting.{pair_of as pair_in}
use Rattle.json_points.proofs.lookup.are_same.Given as goal

abbrev pub invariant-loop-i : goal.invariant-loop-i
invariant-loop-i l = drop l.i l.mine ≡ drop l.i l.its → l.mine ≡ l.its
