-- What serves one round after another.
use Rattle.std.specs.Prelude.{◌≡◌, ℕ, ◌-◌, ◌*◌, ◌<◌, ◌≤◌, List, [], ◌∷◌, length, Result, Ok}
use Rattle.metric_events.specs.Legal.{IsLegal}
use Rattle.metric_events.specs.Standing.{standing}
use Rattle.delta_book.specs.Journal.{Journal, history}
use Rattle.delta_book.specs.declared.faults.RoundFault.{RoundFault}
use Rattle.delta_book.specs.declared.faults.RoundFault.TheVariants as why
use Rattle.delta_book.specs.Totals.{acknowledged_points}
use Rattle.shared_book.specs.Audits.{admitted_points}
use Rattle.shared_book.specs.declared.audit.Audit.{Audit}
use Rattle.gateway_serve.specs.declared.acceptor.RoundCount.{RoundCount}
use Rattle.gateway_serve.specs.declared.fault.GatewayFault.{GatewayFault}
use Rattle.gateway_serve.specs.declared.fault.GatewayFault.TheVariants.{NoMemory, AuditFailed}
use Rattle.gateway_serve.specs.Rounds.{ServedRound}

-- rounds 1, 2, .. up to this one, of so many connections each, have room for all of these; without
-- it they have not
pub record IsLastRound (connections round last : ℕ) : Type 0 where
  pub enough : connections ≤ last * round
  pub needed : 1 < last → (last - 1) * round < connections

-- what a call with its outcome makes of whatever serves rounds
abbrev pub Serving : Type 0 → Type 1
Serving S = S → Journal → ℕ → Result (Journal × Audit × RoundCount) GatewayFault → S → Type 0

-- a call for each of these rounds, the latest first, and no other
abbrev pub AreCalls : {S : Type 0} → Serving S → S → List ServedRound → S → Type 0
AreCalls serves s [] t = s ≡ t
AreCalls {S} serves s (r ∷ earlier) t =
    (m : S) × AreCalls serves s earlier m × (audit : Audit) × (count : RoundCount)
    × serves m r.begun r.connections (Ok (r.ended, audit, count)) t
    × (r.accepted ≡ count.accepted)

-- these rounds were served one after another, and nothing else was called
pub record AreServed {S : Type 0} (serves : Serving S) (s : S) (rounds : List ServedRound)
    (t : S) : Type 0 where
  pub calls : AreCalls serves s rounds t

-- a round is over: its book has the opening that it began with and a legal history, and the audit
-- is that of its entries
pub record IsOver (begun ended : Journal) (audit : Audit) : Type 0 where
  pub opening : ended.opening ≡ begun.opening
  pub legal : IsLegal (history ended)
  pub events : audit.events ≡ length ended.entries
  pub admitted : audit.admitted ≡ admitted_points ended.entries
  pub acknowledged : audit.acknowledged ≡ acknowledged_points (standing (history ended)).series

-- a call on a book without an entry can be made, and gives a round that is over, and has accepted
-- as many connections as it was given
pub record CanServe {S : Type 0} (can : S → Journal → ℕ → Type 0)
    (serves : Serving S) : Type 0 where
  pub called : (s : S) (begun : Journal) (connections : ℕ) → begun.entries ≡ []
      → can s begun connections
  pub over : (s t : S) (begun ended : Journal) (connections : ℕ) (audit : Audit)
      (count : RoundCount) → begun.entries ≡ []
      → serves s begun connections (Ok (ended, audit, count)) t
      → IsOver begun ended audit × (count.accepted ≡ connections)

-- why a round can't be closed, as the gateway ends by it: out of memory, or what the book refuses
abbrev pub close_fault : RoundFault → GatewayFault
close_fault why.NoMemory = NoMemory
close_fault refused = AuditFailed
