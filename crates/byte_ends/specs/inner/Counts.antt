-- How a counter of failed calls changes.
use Rattle.std.specs.Prelude.{◌≢◌, ℕ}
use Rattle.std.proofs.Common.{arith}
use Rattle.byte_ends.specs.Counts.{next_count}

-- such a counter changes at each failure
pub next_count-differs : (n : ℕ) → next_count n ≢ n
next_count-differs n = omega arith
