use Rattle.std.proofs.Common.{◌≡◌, ℕ, ◌+◌, ◌*◌, ◌<◌, ◌≤◌, slice_index}
use Rattle.bucket_lanes.proofs.subtracting.sub_blocks.Given as goal

abbrev pub invariant-loop-block : goal.invariant-loop-block
invariant-loop-block l = record {
  differences : (k : ℕ) → k < 8 * l.block
      → slice_index l.dst k + slice_index l.src k ≡ slice_index l.fn.dst k;
  rest : (k : ℕ) → 8 * l.block ≤ k → slice_index l.dst k ≡ slice_index l.fn.dst k;
}
