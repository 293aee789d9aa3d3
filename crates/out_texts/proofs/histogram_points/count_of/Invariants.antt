use Rattle.std.proofs.Common.{◌≡◌, ◌≤◌, ◌*◌, sum, take}
use Rattle.out_texts.proofs.histogram_points.count_of.Given as goal

abbrev pub invariant-loop-bucket : goal.invariant-loop-bucket
invariant-loop-bucket l = (l.total ≡ sum (take l.bucket-index l.buckets))
    × (l.total ≤ 18446744073709551615 * l.bucket-index)
