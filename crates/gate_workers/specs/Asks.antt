-- What bytes ask for.
use Rattle.std.specs.Prelude.{◌≡◌, ◌≢◌, ◌⊎◌, ℕ, List, [], Option, IfSome}
use Rattle.http_edge.specs.Message.{Message}
use Rattle.http_edge.specs.Reading.{BeginsWith, IsTooLong}
use Rattle.http_edge.specs.Delivery.{IsMalformed}
use Rattle.gate_workers.specs.declared.refusal.Refusal.TheVariants as refusal
use Rattle.gate_workers.specs.Requested.{Requested, Refused, asked}

-- what bytes ask for: what their message asks, or they are refused
abbrev pub Asks : List ℕ → Requested → Type 0
Asks bytes a =
    ((m : Message) × BeginsWith bytes m × (a ≡ asked m))
    ⊎ ((IsTooLong bytes × (a ≡ Refused refusal.BodyTooLong))
    ⊎ (IsMalformed bytes × (a ≡ Refused refusal.Malformed)))

-- where the bytes are known: there is one, and they ask for that, or it was out of memory
abbrev pub IsHeard : Option (List ℕ) → Requested → Type 0
IsHeard input a =
    IfSome input (λ bytes. (bytes ≢ []) × ((a ≡ Refused refusal.NoMemory) ⊎ Asks bytes a))

-- where the bytes are known: there are none
abbrev pub IsEmpty : Option (List ℕ) → Type 0
IsEmpty input = IfSome input (λ bytes. bytes ≡ [])
