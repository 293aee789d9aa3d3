-- How the calls of a script and of a tape follow their steps.
use Rattle.std.specs.Prelude.{ℕ, zero, suc, min, max, List, [], ◌∷◌, Option, Some, None}
use Rattle.byte_ends.specs.declared.step.Step.{Step}
use Rattle.byte_ends.specs.declared.step.Step.TheVariants.{AtMost, Fail}

-- the most bytes that the next read gives, in a buffer of this length; None if it fails
abbrev pub read_limit : List Step → ℕ → Option ℕ
read_limit [] room = Some room
read_limit (AtMost n ∷ _) room = Some (min room (max n 1))
read_limit (Fail ∷ _) room = None

-- the bytes that the next write takes of so many; None if it fails
abbrev pub write_limit : List Step → ℕ → Option ℕ
write_limit [] given = Some given
write_limit (AtMost zero ∷ _) given = None
write_limit (AtMost (suc n) ∷ _) given = Some (min given (suc n))
write_limit (Fail ∷ _) given = None
