use Rattle.std.proofs.Common.{◌≡◌, length}
use Rattle.bucket_lanes.specs.ByPlace.{IsClear}
use Rattle.lane_bench.proofs.kernels.run.Given as goal

abbrev pub invariant-loop : goal.invariant-loop
invariant-loop l = record {
  same : length l.dst ≡ length l.src;
  dst : IsClear l.dst;
  src : IsClear l.src;
}
