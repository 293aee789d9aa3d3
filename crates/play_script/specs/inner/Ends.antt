-- The faults of reading a script.
use Rattle.std.specs.Prelude.{ℕ, ◌<◌, List, length, Some, None, ⊤, Option}
use Rattle.play_script.specs.declared.fault.PlayFault.{PlayFault}
use Rattle.play_script.specs.declared.fault.PlayFault.TheVariants.{TooLong, CannotWrite}

-- there are more bytes than that, where they are known
abbrev pub HasMore : Option (List ℕ) → ℕ → Type 0
HasMore None most = ⊤
HasMore (Some xs) most = most < length xs

-- the faults of reading: TooLong where there are more bytes than that, and none of the writer's
abbrev pub IsReadFault : Option (List ℕ) → ℕ → PlayFault → Type 0
IsReadFault old most TooLong = HasMore old most
IsReadFault old most CannotWrite = ⊥
IsReadFault old most fault = ⊤
