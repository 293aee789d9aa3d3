use Rattle.std.proofs.Common.{◌≡◌, length}
use Rattle.std.specs.List.{AllByRecursion}
use Rattle.series_id.specs.Pairs.{has_long_scalar}
use Rattle.series_id.specs.inner.Values.{IsNarrowScalar}
use Rattle.series_id.proofs.checks.has_long_scalar.Given as goal

abbrev pub invariant-loop-left : goal.invariant-loop-left
invariant-loop-left l = record {
  long : has_long_scalar l.values ≡ has_long_scalar l.left;
  narrow : AllByRecursion IsNarrowScalar l.left → AllByRecursion IsNarrowScalar l.values;
}

abbrev pub decreases-loop-left : goal.decreases-loop-left
decreases-loop-left l = length l.left
