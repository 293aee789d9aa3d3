-- Connections that are served round by round.
use Rattle.std.proofs.Common.{◌≡◌, ℕ, ◌+◌, ◌-◌, ◌*◌, ◌<◌, ◌≤◌, List, [], ◌∷◌, ◌∙◌, ap, sym, arith}
use Rattle.std.proofs.Common.{refl}
use Rattle.std.specs.Prelude.{min}
use Rattle.std.proofs.Math.Nat.{suc-mul}
use Rattle.metric_events.specs.declared.opening.Opening.{Opening}
use Rattle.delta_book.specs.Journal.{Journal}
use Rattle.delta_book.specs.Rounds.{closed}
use Rattle.delta_book.proofs.Journaled.{opening-history}
use Rattle.shared_book.specs.declared.audit.Audit.{Audit}
use Rattle.gateway_serve.specs.declared.sums.Sums.{Sums}
use Rattle.gateway_serve.specs.Rounds.{ServedRound, IsRound, IsRun, MOST}
use Rattle.gateway_serve.specs.inner.Rounds.{IsLastRound, IsOver}

-- behind rounds 1, 2, .. up to the last so many of the connections are left; while some are, each
-- round was full
pub record AreThrough (connections round last left : ℕ) : Type 0 where
  pub full : 0 < left → left + last * round ≡ connections
  pub enough : connections ≤ left + last * round
  pub needed : 1 < last → (last - 1) * round < connections

-- one round more, where some connections are left
pub through_one_more : (c r n m left count rest : ℕ) → AreThrough c r n left → 0 < left → m ≡ n + 1
    → count ≡ min left r → rest ≡ left - count → AreThrough c r m rest
through_one_more c r n m left count rest h some next most less =
    let e : m * r ≡ n * r + r = rw next (omega (arith, suc-mul n r)) in
    let k : m - 1 ≡ n = omega arith in record {
      full = λ more. omega (arith, e, h.full some);
      enough = omega (arith, e, h.full some);
      needed = λ one. rw k (omega (arith, h.full some));
    }

-- the first round
pub through_first : (c r n count rest : ℕ) → n ≡ 1 → count ≡ min c r → rest ≡ c - count
    → AreThrough c r n rest
through_first c r n count rest first most less =
    let e : n * r ≡ r = rw first (omega arith) in record {
      full = λ more. omega (arith, e);
      enough = omega (arith, e);
      needed = λ one. absurd (omega arith);
    }

-- where no connection is left
pub through_last : (c r n left : ℕ) → AreThrough c r n left → left ≤ 0 → IsLastRound c r n
through_last c r n left h none = record { enough = omega (arith, h.enough); needed = h.needed }

-- a sum that stops at m, and what is added to it
pub capped_more : (m x s a b n : ℕ) → s ≡ min x m → a ≡ b → n ≡ min (s + a) m → n ≡ min (x + b) m
capped_more m x s a b n old same new = omega (arith, old, same, new)

-- a run of one round
pub run_first : (c most left : ℕ) (r : ServedRound) (audit : Audit) (s : Sums) → IsRound c most [] r
    → left ≡ c - r.connections → IsOver r.begun r.ended audit → s.admitted ≡ min audit.admitted MOST
    → s.acknowledged ≡ min audit.acknowledged MOST → IsRun c most (c - left) r [] r.ended s
run_first c most left r audit s h less a more taken = record {
  rounds = (tt, h);
  all = omega (arith, h.given, less);
  last = refl;
  admitted = omega (arith, more, a.admitted);
  acknowledged = omega (arith, taken, a.acknowledged);
}

-- one round more
pub run_one_more : (c most left rest : ℕ) (latest r : ServedRound) (earlier : List ServedRound)
    (j : Journal) (audit : Audit) (s t : Sums) → IsRun c most (c - left) latest earlier j s
    → left ≤ c → r.connections ≡ min left most → r.begun ≡ closed j
    → rest ≡ left - r.connections → r.accepted ≡ r.connections
    → IsOver r.begun r.ended audit → t.admitted ≡ min (s.admitted + audit.admitted) MOST
    → t.acknowledged ≡ min (s.acknowledged + audit.acknowledged) MOST
    → IsRun c most (c - rest) r (latest ∷ earlier) r.ended t
run_one_more c most left rest latest r earlier j audit s t h within count begun less all a more
    taken = record {
      rounds = (
        h.rounds,
        record {
          given = omega (arith, h.all, within, count);
          accepted = all;
          begun = begun ∙ sym (ap closed h.last);
          opening = a.opening;
          legal = a.legal;
        },
      );
      all = omega (arith, h.all, within, count, less);
      last = refl;
      admitted =
          capped_more MOST _ s.admitted audit.admitted _ t.admitted h.admitted a.admitted more;
      acknowledged = capped_more MOST _ s.acknowledged audit.acknowledged _ t.acknowledged
          h.acknowledged a.acknowledged taken;
    }

-- behind a round that is closed the next one has the next number
pub next_number : (j b k : Journal) → b ≡ closed j → k.opening ≡ b.opening
    → k.opening.round ≡ j.opening.round + 1
next_number j b k closing opening =
    ap (λ (O : Opening). O.round) opening ∙ ap (λ (J : Journal). J.opening.round) closing
    ∙ ap (λ (O : Opening). O.round + 1) (opening-history j)
