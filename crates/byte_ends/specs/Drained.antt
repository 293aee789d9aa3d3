-- What is discarded of a source.
use Rattle.std.specs.Prelude.{ℕ, ◌≤◌, ◌<◌, List, length, Option}
use Rattle.std.specs.Io.KnownBytes.{Consumes}
use Rattle.byte_ends.specs.Ends.{AreAll}

-- at most so many bytes were read from the front; without a failure, fewer only if there were no
-- more
abbrev pub IsDrained : Option (List ℕ) → Option (List ℕ) → ℕ → Type 0 → Type 0
IsDrained old new most well =
    (thrown : List ℕ) × (length thrown ≤ most) × Consumes old new thrown
    × (well → length thrown < most → AreAll old thrown)
