use Rattle.std.proofs.Common.{◌≡◌, ℕ, ◌+◌, ◌*◌, ◌<◌, ◌≤◌, slice_index}
use Rattle.bucket_lanes.proofs.adding.add_blocks.Given as goal

abbrev pub invariant-loop-block : goal.invariant-loop-block
invariant-loop-block l = record {
  sums : (k : ℕ) → k < 8 * l.block
      → slice_index l.dst k ≡ slice_index l.fn.dst k + slice_index l.src k;
  rest : (k : ℕ) → 8 * l.block ≤ k → slice_index l.dst k ≡ slice_index l.fn.dst k;
}
