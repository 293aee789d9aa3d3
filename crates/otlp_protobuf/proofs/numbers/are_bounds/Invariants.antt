use Rattle.std.proofs.Common.{◌≡◌, ◌≤◌, Some, drop, length, map}
use Rattle.series_id.specs.declared.limits.TheConstants.{MAX_BOUND}
use Rattle.otlp_read.specs.Integers.{signed_in}
use Rattle.otlp_read.specs.Lists.{all_of}
use Rattle.otlp_protobuf.specs.Members.{double_data}
use Rattle.otlp_protobuf.specs.inner.NumberViews.{numbers_data}
use Rattle.otlp_protobuf.proofs.numbers.are_bounds.Given as goal

abbrev pub invariant-loop-bits : goal.invariant-loop-bits
invariant-loop-bits l = record {
  within : l.count ≤ length l.bounds;
  same : all_of (signed_in MAX_BOUND MAX_BOUND) (map double_data (numbers_data l.rest))
      ≡ Some (drop l.count l.bounds)
      → all_of (signed_in MAX_BOUND MAX_BOUND) (map double_data (numbers_data l.numbers))
      ≡ Some l.bounds;
}

abbrev pub decreases-loop-bits : goal.decreases-loop-bits
decreases-loop-bits l = length (numbers_data l.rest)
