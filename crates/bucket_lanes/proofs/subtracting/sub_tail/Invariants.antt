use Rattle.std.proofs.Common.{◌≡◌, ℕ, ◌+◌, ◌<◌, ◌≤◌, slice_index}
use Rattle.bucket_lanes.proofs.subtracting.sub_tail.Given as goal

abbrev pub invariant-loop-k : goal.invariant-loop-k
invariant-loop-k l = record {
  differences : (j : ℕ) → l.from ≤ j → j < l.k
      → slice_index l.dst j + slice_index l.src j ≡ slice_index l.fn.dst j;
  before : (j : ℕ) → j < l.from → slice_index l.dst j ≡ slice_index l.fn.dst j;
  after : (j : ℕ) → l.k ≤ j → slice_index l.dst j ≡ slice_index l.fn.dst j;
}
