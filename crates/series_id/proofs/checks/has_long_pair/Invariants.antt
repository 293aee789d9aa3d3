use Rattle.std.proofs.Common.{◌≡◌, length}
use Rattle.std.specs.List.{AllByRecursion}
use Rattle.series_id.specs.Pairs.{has_long_pair}
use Rattle.series_id.specs.inner.Values.{IsNarrow}
use Rattle.series_id.proofs.checks.has_long_pair.Given as goal

abbrev pub invariant-loop-left : goal.invariant-loop-left
invariant-loop-left l = record {
  long : has_long_pair l.pairs ≡ has_long_pair l.left;
  narrow : AllByRecursion (λ p. IsNarrow p.1) l.left → AllByRecursion (λ p. IsNarrow p.1) l.pairs;
}

abbrev pub decreases-loop-left : goal.decreases-loop-left
decreases-loop-left l = length l.left
