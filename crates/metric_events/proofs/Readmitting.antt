-- The batches of what is pending, admitted again one after another, and the senders quarantined
-- again.
use Rattle.std.proofs.Common.{◌≡◌, ℕ, ◌==◌, Bool, true, false, cond, not, List, [], ◌∷◌, ◌++◌, refl}
use Rattle.std.proofs.Common.{ap, sym, ◌∙◌, arith}
use Rattle.std.specs.List.{list_any, list_all, filter}
use Rattle.std.proofs.lemmas.Bool.{and_parts, or_from, eq-eqb}
use Rattle.series_id.specs.Identity.{Identity, row_length}
use Rattle.metric_events.specs.DataPoint.{DataPoint}
use Rattle.metric_events.specs.Rows.{add_rows, zeros, fits}
use Rattle.metric_events.specs.History.{History, ◌▸◌, ◌then◌}
use Rattle.metric_events.specs.Running.{is_another}
use Rattle.metric_events.specs.Senders.{same_sender, are_once}
use Rattle.metric_events.specs.Series.{is_of, sum_of}
use Rattle.metric_events.specs.Legal.{is_over, is_too_large, is_open, is_held}
use Rattle.metric_events.specs.Recovery.{Numbered, readmitted, quarantined}
use Rattle.metric_events.specs.declared.accepted.Accepted.{Accepted}
use Rattle.metric_events.specs.declared.event.Event.TheVariants.{Admit, Confirm, Quarantine}
use Rattle.metric_events.proofs.Lists.{all_last}
use Rattle.metric_events.proofs.Senders.{same_sender-sym}
use Rattle.metric_events.proofs.Sums.{add_rows-assoc, add_rows_swap, add_rows-zeros, length-zeros}

-- sums

pub sum_parts : (x : Identity) (h : Accepted → Bool) (qs : List Accepted)
    → sum_of x qs ≡ add_rows (sum_of x (filter (λ a. not (h a)) qs)) (sum_of x (filter h qs))
sum_parts x h [] = sym (add_rows-zeros (row_length x.kind) (zeros (row_length x.kind))
    (omega (arith, length-zeros (row_length x.kind))))
sum_parts x h (a ∷ qs) = both (is_of x a) (h a) refl refl (sum_parts x h qs)
  where
    both : (v w : Bool) → is_of x a ≡ v → h a ≡ w
        → sum_of x qs ≡ add_rows (sum_of x (filter (λ a. not (h a)) qs)) (sum_of x (filter h qs))
        → sum_of x (a ∷ qs) ≡ add_rows (sum_of x (filter (λ a. not (h a)) (a ∷ qs)))
        (sum_of x (filter h (a ∷ qs)))
    both true true d g r = rw (g, d) (ap (add_rows a.point.row) r
        ∙ add_rows_swap a.point.row (sum_of x (filter (λ a. not (h a)) qs))
        (sum_of x (filter h qs)))
    both true false d g r = rw (g, d)
        (ap (add_rows a.point.row) r ∙ sym
        (add_rows-assoc a.point.row (sum_of x (filter (λ a. not (h a)) qs))
        (sum_of x (filter h qs))))
    both false true d g r = rw (g, d) r
    both false false d g r = rw (g, d) r

pub none_over : (qs : List Accepted) (ps : List DataPoint)
    → ((x : Identity) → fits x.kind (sum_of x qs) ≡ true) → is_too_large qs ps ≡ false
none_over qs [] k = refl
none_over qs (p ∷ ps) k =
    or_from (is_over qs p) (is_too_large qs ps) (ap not (k p.series)) (none_over qs ps k)

-- the batches one after another

abbrev pub trail : History → List Numbered → History
trail S [] = S
trail S (n ∷ ns) = trail (S ▸ Admit n.number n.body ▸ Confirm n.number) ns

pub trail_is : (F S : History) (ns : List Numbered) → readmitted (F then S) ns ≡ F then trail S ns
trail_is F S [] = refl
trail_is F S (n ∷ ns) = trail_is F (S ▸ Admit n.number n.body ▸ Confirm n.number) ns

-- one is opened and ended
pub ended : (b : ℕ) (cs : List ℕ) → cs ≡ [] → filter (is_another b) (cs ++ b ∷ []) ≡ []
ended b cs e = ap (λ ds. filter (is_another b) (ds ++ b ∷ [])) e
    ∙ ap (λ v. cond (not v) (b ∷ []) []) (eq-eqb b b refl)

pub opened_last : (b : ℕ) (cs : List ℕ) → cs ≡ [] → is_open b (cs ++ b ∷ []) ≡ true
opened_last b cs e = ap (λ ds. is_open b (ds ++ b ∷ [])) e ∙ or_first (b == b) (eq-eqb b b refl)
  where
    or_first : (v : Bool) → v ≡ true → list_any (λ (c : Bool). c) (v ∷ []) ≡ true
    or_first v k = ap (λ u. list_any (λ (c : Bool). c) (u ∷ [])) k

-- the senders one after another

abbrev pub holds : History → List (List ℕ) → History
holds S [] = S
holds S (s ∷ ss) = holds (S ▸ Quarantine s) ss

pub holds_is : (F S : History) (ss : List (List ℕ)) → quarantined (F then S) ss ≡ F then holds S ss
holds_is F S [] = refl
holds_is F S (s ∷ ss) = holds_is F (S ▸ Quarantine s) ss

pub once_before : (s : List ℕ) (xs ss : List (List ℕ)) → are_once (xs ++ s ∷ ss) ≡ true
    → is_held s xs ≡ false
once_before s [] ss h = refl
once_before s (t ∷ xs) ss h =
    let p = and_parts (list_all (λ u. not (same_sender u t)) (xs ++ s ∷ ss))
    (are_once (xs ++ s ∷ ss)) h in
    let q = and_parts (not (same_sender s t)) (list_all (λ u. not (same_sender u t)) ss)
    (all_last (λ u. not (same_sender u t)) xs (s ∷ ss) p.0) in
    or_from (same_sender t s) (is_held s xs) (apart (same_sender t s) refl q.0)
    (once_before s xs ss p.1)
  where
    apart : (v : Bool) → same_sender t s ≡ v → not (same_sender s t) ≡ true
        → same_sender t s ≡ false
    apart true e n =
        absurd (let k = same_sender-sym t s e in let m : not true ≡ true = rw k at n in cc)
    apart false e n = e
