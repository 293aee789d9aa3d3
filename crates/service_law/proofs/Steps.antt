-- What a point may add, case by case.
use Rattle.std.proofs.Common.{◌≡◌, ◌≢◌, ◌<◌, ◌≤◌, ◌==◌, ◌||◌, ◌&&◌, not, Bool, true, false, Option}
use Rattle.std.proofs.Common.{Some, None, refl, nat_le, nat_lt}
use Rattle.std.proofs.lemmas.Bool.{cond_both, leb-true, leb-false, eqb-true, eqb-false, ltb-true}
use Rattle.std.proofs.lemmas.Bool.{and_parts, not-true}
use Rattle.service_law.specs.Sums.{Entry, Noted, Counted, More, Reading, minus}
use Rattle.service_law.specs.Runs.{Options, counts_first, entry, entry_of_run, goes_down}
use Rattle.service_law.specs.Runs.{is_instant, is_since}

-- where q was kept
pub steps : (o : Options) (q p : Reading) (P : Option Entry → Type 0) → (p.time ≤ q.time → P None)
    → (q.time < p.time → p.start ≡ q.start → goes_down o q.words p.words ≡ false
    → P (Some (More q.time p.time (minus p.words q.words))))
    → (q.time < p.time → p.start ≡ q.start → goes_down o q.words p.words ≡ true
    → (o.resets || p.start == 0) ≡ true → P (Some (Counted p.start q.time p.time p.words)))
    → (q.time < p.time → p.start ≡ q.start → goes_down o q.words p.words ≡ true
    → (o.resets || p.start == 0) ≡ false → P None)
    → (q.time < p.time → p.start ≢ q.start → q.time ≤ p.start → is_instant p ≡ true
    → P (Some (Noted p.start p.time p.words)))
    → (q.time < p.time → p.start ≢ q.start → q.time ≤ p.start → is_instant p ≡ false
    → P (Some (Counted p.start p.start p.time p.words)))
    → (q.time < p.time → p.start ≢ q.start → p.start < q.time → P None)
    → P (entry o (Some q) p)
steps o q p P old more reset falls notes run early =
    cond_both (nat_le p.time q.time) _ _ P (λ e. old (leb-true _ _ e)) (λ e.
    let later = leb-false _ _ e in
    cond_both (p.start == q.start) _ _ P
    (λ e. of_run (eqb-true _ _ e) later (goes_down o q.words p.words) refl) (λ e.
    let other = eqb-false _ _ e in
    cond_both (nat_le q.time p.start) _ _ P
    (λ e. let behind = leb-true _ _ e in
    cond_both (is_instant p) _ _ P (λ i. notes later other behind i)
    (λ i. run later other behind i)) (λ e. early later other (leb-false _ _ e))))
  where
    of_run : p.start ≡ q.start → q.time < p.time → (b : Bool) → goes_down o q.words p.words ≡ b
        → P (entry_of_run o q p b)
    of_run same later false d = more later same d
    of_run same later true d = cond_both (o.resets || p.start == 0) _ _ P
        (λ e. reset later same d e) (λ e. falls later same d e)

-- where nothing was kept
pub first_steps : (o : Options) (p : Reading) (P : Option Entry → Type 0)
    → (counts_first o p ≡ true → P (Some (Counted p.start p.start p.time p.words)))
    → (counts_first o p ≡ false → P (Some (Noted p.start p.time p.words)))
    → P (entry o None p)
first_steps o p P counts notes = cond_both (counts_first o p) _ _ P counts notes

-- what counts from its start has one, before its time
pub counts_span : (o : Options) (p : Reading) → counts_first o p ≡ true
    → (0 < p.start) × (p.start ≢ p.time)
counts_span o p c =
    let l = and_parts (nat_lt 0 p.start && nat_le o.forgotten p.start)
    (is_since o.first o.made p.start && not (is_instant p)) c in (
      ltb-true _ _ (and_parts (nat_lt 0 p.start) (nat_le o.forgotten p.start) l.0).0,
      eqb-false
          _ _ (not-true _ (and_parts (is_since o.first o.made p.start) (not (is_instant p)) l.1).1),
    )
