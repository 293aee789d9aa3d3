-- How connections are spread over rounds, and what the rounds of a run come to.
use Rattle.std.specs.Prelude.{◌≡◌, ℕ, ◌+◌, ◌-◌, ◌^◌, min, List, [], ◌∷◌}
use Rattle.metric_events.specs.Legal.{IsLegal}
use Rattle.metric_events.specs.Opening.{first_opening}
use Rattle.metric_events.specs.Standing.{standing}
use Rattle.delta_book.specs.Journal.{Journal, journal_of, history}
use Rattle.delta_book.specs.Rounds.{closed}
use Rattle.delta_book.specs.Totals.{acknowledged_points}
use Rattle.shared_book.specs.Audits.{admitted_points}
use Rattle.gateway_serve.specs.declared.sums.Sums.{Sums}

-- a round that was served: how many connections it was given, how many it has accepted, and the
-- journals that it began and ended with
pub record ServedRound : Type 0 where
  pub connections : ℕ
  pub accepted : ℕ
  pub begun : Journal
  pub ended : Journal

-- the journal behind these rounds: a new one, or the latest, closed
abbrev pub next_journal : List ServedRound → Journal
next_journal [] = journal_of first_opening []
next_journal (r ∷ earlier) = closed r.ended

-- how many connections these rounds were given
abbrev pub given_to : List ServedRound → ℕ
given_to [] = 0
given_to (r ∷ earlier) = given_to earlier + r.connections

-- how many points were admitted in these rounds
abbrev pub admitted_in : List ServedRound → ℕ
admitted_in [] = 0
admitted_in (r ∷ earlier) = admitted_in earlier + admitted_points r.ended.entries

-- how many points the back end has taken in these rounds
abbrev pub acknowledged_in : List ServedRound → ℕ
acknowledged_in [] = 0
acknowledged_in (r ∷ earlier) =
    acknowledged_in earlier + acknowledged_points (standing (history r.ended)).series

-- a round behind earlier ones: it is given what is left, at most so many, and has accepted as many;
-- it begins where they ended, and ends with a legal history from there
pub record IsRound (connections most : ℕ) (earlier : List ServedRound)
    (r : ServedRound) : Type 0 where
  pub given : r.connections ≡ min (connections - given_to earlier) most
  pub accepted : r.accepted ≡ r.connections
  pub begun : r.begun ≡ next_journal earlier
  pub opening : r.ended.opening ≡ r.begun.opening
  pub legal : IsLegal (history r.ended)

-- each of these rounds, the latest first
abbrev pub AreRounds : ℕ → ℕ → List ServedRound → Type 0
AreRounds connections most [] = Unit {0}
AreRounds connections most (r ∷ earlier) =
    AreRounds connections most earlier × IsRound connections most earlier r

-- the most that a sum holds
abbrev pub MOST : ℕ
MOST = 2 ^ 128 - 1

-- these rounds were given so many connections together, the latest ended with this journal, and the
-- sums are those of all
pub record IsRun (connections most given : ℕ) (latest : ServedRound) (earlier : List ServedRound)
    (j : Journal) (sums : Sums) : Type 0 where
  pub rounds : AreRounds connections most (latest ∷ earlier)
  pub all : given_to (latest ∷ earlier) ≡ given
  pub last : latest.ended ≡ j
  pub admitted : sums.admitted ≡ min (admitted_in (latest ∷ earlier)) MOST
  pub acknowledged : sums.acknowledged ≡ min (acknowledged_in (latest ∷ earlier)) MOST
