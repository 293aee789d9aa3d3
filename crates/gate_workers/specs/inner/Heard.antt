-- What is read of a reader.
use Rattle.std.specs.Prelude.{◌≡◌, ◌⊎◌, ℕ, List, Option, IfSome, ⊤}
use Rattle.http_edge.specs.declared.fault.HttpFault.{HttpFault}
use Rattle.http_edge.specs.declared.fault.HttpFault.TheVariants as http
use Rattle.gate_workers.specs.declared.refusal.Refusal.{Refusal}
use Rattle.gate_workers.specs.declared.refusal.Refusal.TheVariants as refusal
use Rattle.gate_workers.specs.declared.request.Ask.TheVariants as ask
use Rattle.gate_workers.specs.declared.service.Heard.{Heard}
use Rattle.gate_workers.specs.declared.service.Heard.TheVariants as heard
use Rattle.gate_workers.specs.declared.worker.Spot.TheVariants.{BodyRead}
use Rattle.gate_workers.specs.Requested.{Refused}
use Rattle.gate_workers.specs.Asks.{IsHeard, IsEmpty}
use Rattle.gate_workers.specs.Paced.{Reaching, HasRequest, IsUnread}
use Rattle.gate_workers.specs.inner.Shown.{shown}

-- what is read where there is no request
abbrev pub heard_of : HttpFault → Heard
heard_of http.Closed = heard.Closed
heard_of http.Io = heard.Broken
heard_of http.BodyTooLong = heard.Asks (ask.Refused refusal.BodyTooLong)
heard_of http.NoMemory = heard.Asks (ask.Refused refusal.NoMemory)
heard_of fault = heard.Asks (ask.Refused refusal.Malformed)

-- what is read of these bytes, where they are known
abbrev pub Hears : Option (List ℕ) → Heard → Type 0
Hears input heard.Closed = IsEmpty input
Hears input heard.Broken = ⊤
Hears input (heard.Asks ask) = IsHeard input (shown ask)

-- the count of failed calls, before and after: one more at Broken
abbrev pub HearingFails : (ℕ → ℕ) → ℕ → ℕ → Heard → Type 0
HearingFails one_more old new heard.Broken = new ≡ one_more old
HearingFails one_more old new h = new ≡ old

-- a request was read whole, and the pace was asked once; or a refusal is asked for, as of bytes
-- that were not, and the pace was not asked
abbrev pub HearingAsks : {P : Type 0} → Reaching P → Option (List ℕ) → P → P → Heard → Type 0
HearingAsks reaches input p p' (heard.Asks ask) =
    (IfSome input HasRequest × reaches p BodyRead p')
    ⊎ ((why : Refusal) × IsUnread input why × (shown ask ≡ Refused why) × (p' ≡ p))
HearingAsks reaches input p p' h = p' ≡ p
