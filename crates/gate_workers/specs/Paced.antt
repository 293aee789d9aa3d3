-- At which spots a worker asks its pace.
use Rattle.std.specs.Prelude.{◌≡◌, ◌⊎◌, ℕ, List, Option, IfSome}
use Rattle.http_edge.specs.Message.{Message}
use Rattle.http_edge.specs.Reading.{BeginsWith, IsTooLong}
use Rattle.http_edge.specs.Delivery.{IsMalformed}
use Rattle.gate_workers.specs.declared.flush.Turn.{Turn}
use Rattle.gate_workers.specs.declared.flush.Turn.TheVariants.{Done}
use Rattle.gate_workers.specs.declared.refusal.Refusal.{Refusal}
use Rattle.gate_workers.specs.declared.refusal.Refusal.TheVariants as refusal
use Rattle.gate_workers.specs.declared.service.Served.{Served}
use Rattle.gate_workers.specs.declared.service.Served.TheVariants.{Replied}
use Rattle.gate_workers.specs.declared.worker.Spot.{Spot}
use Rattle.gate_workers.specs.declared.worker.Spot.TheVariants.{BodyRead, BeforeSend}
use Rattle.gate_workers.specs.Refusals.{refusal_status}

-- how a worker that reaches a spot changes its pace
abbrev pub Reaching : Type 0 → Type 1
Reaching P = P → Spot → P → Type 0

-- a flush turn asks once where a flush is sent, and else never
abbrev pub IsTurnPaced : {P : Type 0} → Reaching P → P → P → Turn → Type 0
IsTurnPaced reaches p p' (Done flush points answer act) = reaches p BeforeSend p'
IsTurnPaced reaches p p' t = p' ≡ p

-- the bytes begin with a whole request
abbrev pub HasRequest : List ℕ → Type 0
HasRequest bytes = (m : Message) × BeginsWith bytes m

-- bytes that are no whole request are refused so, or there was no memory to read or to answer them
abbrev pub IsUnread : Option (List ℕ) → Refusal → Type 0
IsUnread input why =
    (why ≡ refusal.NoMemory)
    ⊎ ((IfSome input IsTooLong × (why ≡ refusal.BodyTooLong))
    ⊎ (IfSome input IsMalformed × (why ≡ refusal.Malformed)))

-- a request that was read whole asks once; one that was not never asks, and leaves the keeper as it
-- was. One that is answered `no memory` may be either
abbrev pub IsPaced : {K P : Type 0} → Reaching P → Option (List ℕ) → K → K → P → P → Served
    → Type 0
IsPaced reaches input k k' p p' (Replied status written end) =
    (IfSome input HasRequest × reaches p BodyRead p')
    ⊎ ((why : Refusal) × IsUnread input why × (status ≡ refusal_status why) × (k' ≡ k)
    × (p' ≡ p))
IsPaced reaches input k k' p p' served = p' ≡ p
