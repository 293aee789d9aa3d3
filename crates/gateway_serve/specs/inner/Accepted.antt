-- How a round ends by what it has accepted.
use Rattle.std.specs.Prelude.{◌≡◌, ◌<◌, ◌⊎◌, ℕ, Bool, true, false, Option, Some, None, Result, Ok}
use Rattle.std.specs.Prelude.{Err}
use Rattle.gateway_serve.specs.declared.fault.GatewayFault.{GatewayFault}
use Rattle.gateway_serve.specs.declared.fault.GatewayFault.TheVariants.{CannotAccept}

-- nothing is permitted: there was a fault, not all workers have started, or all were permitted
abbrev pub IsEnded : ℕ → ℕ → Option GatewayFault → Type 0
IsEnded awaited left None = (0 < awaited) ⊎ (left ≡ 0)
IsEnded awaited left (Some fault) = Unit {0}

-- the fault of a round: the first one; else, where not all were accepted, that they can't be
abbrev pub round_fault : Bool → Option GatewayFault → Option GatewayFault
round_fault all (Some fault) = Some fault
round_fault true None = None
round_fault false None = Some CannotAccept

-- a fault comes first, and else this outcome counts
abbrev pub or_fault : {X : Type 0} → Option GatewayFault → Result X GatewayFault
    → Result X GatewayFault
or_fault None outcome = outcome
or_fault (Some fault) outcome = Err fault

-- an outcome without the count beside it
abbrev pub without_count : {X C : Type 0} → Result (X × C) GatewayFault → Result X GatewayFault
without_count (Ok r) = Ok r.0
without_count (Err fault) = Err fault
