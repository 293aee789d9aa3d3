use Rattle.std.proofs.Common.{◌≡◌, ◌≤◌, ◌*◌, sum, take}
use Rattle.bucket_lanes.proofs.totals.total.Given as goal

abbrev pub invariant-loop-word : goal.invariant-loop-word
invariant-loop-word l =
    (l.total ≡ sum (take l.word-index l.words)) × (l.total ≤ l.word-index * 18446744073709551615)
