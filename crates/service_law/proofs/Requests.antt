-- The outbox: where its requests are, and what the sink has of them.
use Rattle.std.proofs.Common.{◌≡◌, ℕ, zero, suc, Bool, true, false, cond, not, ◌&&◌, ◌||◌, List, []}
use Rattle.std.proofs.Common.{◌∷◌, ◌++◌, refl, ap, sym, ◌∙◌, append_assoc}
use Rattle.std.specs.List.{AllByRecursion}
use Rattle.std.proofs.lemmas.List.{append-nil}
use Rattle.series_id.specs.Identity.{Identity}
use Rattle.metric_events.specs.Rows.{add_rows}
use Rattle.metric_events.specs.Series.{sum_of}
use Rattle.metric_events.specs.declared.accepted.Accepted.{Accepted}
use Rattle.metric_events.proofs.Sums.{add_rows-assoc, add_rows_swap}
use Rattle.metric_events.proofs.Bare.{sum_append}
use Rattle.service_law.specs.Machine.{Fate, Waiting, Acknowledged, Dropped, Request, change, is_new}
use Rattle.service_law.specs.Machine.{is_waiting, has_none, reached, gained, acknowledged, dropped}
use Rattle.service_law.specs.Machine.{is_dropped, request, resent, sent}
use Rattle.service_law.specs.Counted.{all_rules, delivered, dead, outbox}

-- the sink has what was acknowledged, and not what was dropped, under the store's key alone
abbrev pub Fits : Fate → List ℕ → Type 0
Fits Waiting [] = Unit {0}
Fits Waiting (k ∷ ks) = k ≡ 0
Fits Acknowledged [] = ⊥
Fits Acknowledged (k ∷ ks) = Unit {0}
Fits Dropped [] = Unit {0}
Fits Dropped (k ∷ ks) = ⊥

abbrev pub IsFit : Request → Type 0
IsFit q = Fits q.fate q.has

pub all_change : (P : Request → Type 0) (f : Request → Request) → ((q : Request) → P q → P (f q))
    → (k : ℕ) (qs : List Request) → AllByRecursion P qs → AllByRecursion P (change f k qs)
all_change P f g k [] a = a
all_change P f g zero (q ∷ qs) a = (g q a.0, a.1)
all_change P f g (suc k) (q ∷ qs) a = (a.0, all_change P f g k qs a.1)

pub sent_change : (f : Request → Request) → ((q : Request) → (f q).points ≡ q.points)
    → (k : ℕ) (qs : List Request) → sent (change f k qs) ≡ sent qs
sent_change f g k [] = refl
sent_change f g zero (q ∷ qs) = ap (λ us. us ++ sent qs) (g q)
sent_change f g (suc k) (q ∷ qs) = ap (λ us. q.points ++ us) (sent_change f g k qs)

pub sent_last : (qs : List Request) (us : List Accepted)
    → sent (qs ++ request us ∷ []) ≡ sent qs ++ us
sent_last [] us = append-nil us
sent_last (q ∷ qs) us =
    ap (λ vs. q.points ++ vs) (sent_last qs us) ∙ sym (append_assoc q.points (sent qs) us)

pub fit_last : (qs : List Request) (us : List Accepted) → AllByRecursion IsFit qs
    → AllByRecursion IsFit (qs ++ request us ∷ [])
fit_last [] us a = (tt, tt)
fit_last (q ∷ qs) us a = (a.0, fit_last qs us a.1)

pub delivered_last : (qs : List Request) (us : List Accepted)
    → delivered (qs ++ request us ∷ []) ≡ delivered qs
delivered_last [] us = refl
delivered_last (q ∷ qs) us =
    ap (λ vs. cond (not (has_none q.has)) (q.points ++ vs) vs) (delivered_last qs us)

-- an acknowledgement, and a request that is dropped

pub ack_points : (q : Request) → (acknowledged all_rules q).points ≡ q.points
ack_points q = elim (is_waiting q.fate && (false || not (has_none q.has)))
    as (λ v. (cond v (record q { fate = Acknowledged }) q).points ≡ q.points)
    [ true ↦ refl | false ↦ refl ]

ack_has : (q : Request) → (acknowledged all_rules q).has ≡ q.has
ack_has q = elim (is_waiting q.fate && (false || not (has_none q.has)))
    as (λ v. (cond v (record q { fate = Acknowledged }) q).has ≡ q.has)
    [ true ↦ refl | false ↦ refl ]

pub ack_fits : (q : Request) → IsFit q → IsFit (acknowledged all_rules q)
ack_fits q h = by q.points q.fate q.has h
  where
    by : (points : List Accepted) (fate : Fate) (has : List ℕ) → Fits fate has
        → IsFit (acknowledged all_rules (record { points = points; fate = fate; has = has }))
    by points Waiting [] h = tt
    by points Waiting (k ∷ ks) h = tt
    by points Acknowledged has h = h
    by points Dropped has h = h

pub drop_points : (q : Request) → (dropped all_rules q).points ≡ q.points
drop_points q = elim (is_waiting q.fate && (false || has_none q.has))
    as (λ v. (cond v (record q { fate = Dropped }) q).points ≡ q.points)
    [ true ↦ refl | false ↦ refl ]

drop_has : (q : Request) → (dropped all_rules q).has ≡ q.has
drop_has q = elim (is_waiting q.fate && (false || has_none q.has))
    as (λ v. (cond v (record q { fate = Dropped }) q).has ≡ q.has) [ true ↦ refl | false ↦ refl ]

pub drop_fits : (q : Request) → IsFit q → IsFit (dropped all_rules q)
drop_fits q h = by q.points q.fate q.has h
  where
    by : (points : List Accepted) (fate : Fate) (has : List ℕ) → Fits fate has
        → IsFit (dropped all_rules (record { points = points; fate = fate; has = has }))
    by points Waiting [] h = tt
    by points Waiting (k ∷ ks) h = h
    by points Acknowledged has h = h
    by points Dropped has h = h

delivered_change : (f : Request → Request) → ((q : Request) → (f q).points ≡ q.points)
    → ((q : Request) → (f q).has ≡ q.has) → (k : ℕ) (qs : List Request)
    → delivered (change f k qs) ≡ delivered qs
delivered_change f g h k [] = refl
delivered_change f g h zero (q ∷ qs) =
    ap (λ has. cond (not (has_none has)) ((f q).points ++ delivered qs) (delivered qs)) (h q)
    ∙ ap (λ us. cond (not (has_none q.has)) (us ++ delivered qs) (delivered qs)) (g q)
delivered_change f g h (suc k) (q ∷ qs) =
    ap (λ vs. cond (not (has_none q.has)) (q.points ++ vs) vs) (delivered_change f g h k qs)

pub delivered_ack : (k : ℕ) (qs : List Request)
    → delivered (change (acknowledged all_rules) k qs) ≡ delivered qs
delivered_ack k qs = delivered_change (acknowledged all_rules) ack_points ack_has k qs

pub delivered_drop : (k : ℕ) (qs : List Request)
    → delivered (change (dropped all_rules) k qs) ≡ delivered qs
delivered_drop k qs = delivered_change (dropped all_rules) drop_points drop_has k qs

pub resent_points : (q : Request) → (resent q).points ≡ q.points
resent_points q = elim (is_dropped q.fate)
    as (λ v. (cond v (record q { fate = Waiting }) q).points ≡ q.points)
    [ true ↦ refl | false ↦ refl ]

resent_has : (q : Request) → (resent q).has ≡ q.has
resent_has q = elim (is_dropped q.fate)
    as (λ v. (cond v (record q { fate = Waiting }) q).has ≡ q.has) [ true ↦ refl | false ↦ refl ]

pub resent_fits : (q : Request) → IsFit q → IsFit (resent q)
resent_fits q h = by q.points q.fate q.has h
  where
    by : (points : List Accepted) (fate : Fate) (has : List ℕ) → Fits fate has
        → IsFit (resent (record { points = points; fate = fate; has = has }))
    by points Waiting has h = h
    by points Acknowledged has h = h
    by points Dropped [] h = tt
    by points Dropped (k ∷ ks) h = absurd h

pub delivered_resent : (k : ℕ) (qs : List Request) → delivered (change resent k qs) ≡ delivered qs
delivered_resent k qs = delivered_change resent resent_points resent_has k qs

-- a request that reaches the sink

pub reach_points : (q : Request) → (reached 0 q).points ≡ q.points
reach_points q = elim (is_new 0 q)
    as (λ v. (cond v (record q { has = q.has ++ 0 ∷ [] }) q).points ≡ q.points)
    [ true ↦ refl | false ↦ refl ]

pub reach_fits : (q : Request) → IsFit q → IsFit (reached 0 q)
reach_fits q h = by q.points q.fate q.has h
  where
    kept : (v : Bool) (points : List Accepted) (k : ℕ) (ks : List ℕ) → k ≡ 0
        → IsFit (cond v (record { points = points; fate = Waiting; has = (k ∷ ks) ++ 0 ∷ [] })
        (record { points = points; fate = Waiting; has = k ∷ ks }))
    kept true points k ks e = e
    kept false points k ks e = e

    by : (points : List Accepted) (fate : Fate) (has : List ℕ) → Fits fate has
        → IsFit (reached 0 (record { points = points; fate = fate; has = has }))
    by points Waiting [] h = refl
    by points Waiting (k ∷ ks) h =
        kept (is_new 0 (record { points = points; fate = Waiting; has = k ∷ ks })) points k ks h
    by points Acknowledged has h = h
    by points Dropped has h = h

-- a row of zeros beside a sum
none_beside : (x : Identity) (us : List Accepted)
    → sum_of x us ≡ add_rows (sum_of x []) (sum_of x us)
none_beside x us = sum_append x [] us

reach_one : (x : Identity) (q : Request) (us : List Accepted) → IsFit q
    → sum_of x (cond (not (has_none (reached 0 q).has)) ((reached 0 q).points ++ us) us)
    ≡ add_rows (sum_of x (cond (is_new 0 q) q.points []))
    (sum_of x (cond (not (has_none q.has)) (q.points ++ us) us))
reach_one x q us h = by q.points q.fate q.has h
  where
    by : (points : List Accepted) (fate : Fate) (has : List ℕ) → Fits fate has
        → (let r : Request = record { points = points; fate = fate; has = has } in
        sum_of x (cond (not (has_none (reached 0 r).has)) ((reached 0 r).points ++ us) us)
        ≡ add_rows (sum_of x (cond (is_new 0 r) points []))
        (sum_of x (cond (not (has_none has)) (points ++ us) us)))
    by points Waiting [] h = sum_append x points us
    by points Waiting (k ∷ ks) h = rw h (none_beside x (points ++ us))
    by points Acknowledged [] h = absurd h
    by points Acknowledged (k ∷ ks) h = none_beside x (points ++ us)
    by points Dropped [] h = none_beside x us
    by points Dropped (k ∷ ks) h = absurd h

pub delivered_reach : (x : Identity) (k : ℕ) (qs : List Request) → AllByRecursion IsFit qs
    → sum_of x (delivered (change (reached 0) k qs))
    ≡ add_rows (sum_of x (gained 0 k qs)) (sum_of x (delivered qs))
delivered_reach x k [] a = none_beside x []
delivered_reach x zero (q ∷ qs) a = reach_one x q (delivered qs) a.0
delivered_reach x (suc k) (q ∷ qs) a = by (not (has_none q.has)) (delivered_reach x k qs a.1)
  where
    by : (v : Bool) → sum_of x (delivered (change (reached 0) k qs))
        ≡ add_rows (sum_of x (gained 0 k qs)) (sum_of x (delivered qs))
        → sum_of x (cond v (q.points ++ delivered (change (reached 0) k qs))
        (delivered (change (reached 0) k qs)))
        ≡ add_rows (sum_of x (gained 0 k qs))
        (sum_of x (cond v (q.points ++ delivered qs) (delivered qs)))
    by true r = sum_append x q.points (delivered (change (reached 0) k qs))
        ∙ (ap (add_rows (sum_of x q.points)) r
        ∙ (add_rows_swap (sum_of x q.points) (sum_of x (gained 0 k qs))
        (sum_of x (delivered qs)) ∙ ap (add_rows (sum_of x (gained 0 k qs)))
        (sym (sum_append x q.points (delivered qs)))))
    by false r = r

-- each request is delivered, dropped or waits

class_one : (x : Identity) (q : Request) (ds es os : List Accepted) → IsFit q
    → add_rows (sum_of x (cond (not (has_none q.has)) (q.points ++ ds) ds))
    (add_rows (sum_of x (cond (is_dropped q.fate) (q.points ++ es) es))
    (sum_of x (cond (is_waiting q.fate && has_none q.has) (q.points ++ os) os)))
    ≡ add_rows (sum_of x q.points) (add_rows (sum_of x ds) (add_rows (sum_of x es) (sum_of x os)))
class_one x q ds es os h = by q.fate q.has h
  where
    p : List ℕ
    p = sum_of x q.points

    first : add_rows (sum_of x (q.points ++ ds)) (add_rows (sum_of x es) (sum_of x os))
        ≡ add_rows p (add_rows (sum_of x ds) (add_rows (sum_of x es) (sum_of x os)))
    first = ap (λ row. add_rows row (add_rows (sum_of x es) (sum_of x os)))
        (sum_append x q.points ds)
        ∙ add_rows-assoc p (sum_of x ds) (add_rows (sum_of x es) (sum_of x os))

    second : add_rows (sum_of x ds) (add_rows (sum_of x (q.points ++ es)) (sum_of x os))
        ≡ add_rows p (add_rows (sum_of x ds) (add_rows (sum_of x es) (sum_of x os)))
    second = ap (λ row. add_rows (sum_of x ds) (add_rows row (sum_of x os)))
        (sum_append x q.points es) ∙ (ap (add_rows (sum_of x ds))
        (add_rows-assoc p (sum_of x es) (sum_of x os))
        ∙ add_rows_swap (sum_of x ds) p (add_rows (sum_of x es) (sum_of x os)))

    third : add_rows (sum_of x ds) (add_rows (sum_of x es) (sum_of x (q.points ++ os)))
        ≡ add_rows p (add_rows (sum_of x ds) (add_rows (sum_of x es) (sum_of x os)))
    third = ap (λ row. add_rows (sum_of x ds) (add_rows (sum_of x es) row))
        (sum_append x q.points os) ∙ (ap (add_rows (sum_of x ds))
        (add_rows_swap (sum_of x es) p (sum_of x os))
        ∙ add_rows_swap (sum_of x ds) p (add_rows (sum_of x es) (sum_of x os)))

    by : (fate : Fate) (has : List ℕ) → Fits fate has
        → add_rows (sum_of x (cond (not (has_none has)) (q.points ++ ds) ds))
        (add_rows (sum_of x (cond (is_dropped fate) (q.points ++ es) es))
        (sum_of x (cond (is_waiting fate && has_none has) (q.points ++ os) os)))
        ≡ add_rows p (add_rows (sum_of x ds) (add_rows (sum_of x es) (sum_of x os)))
    by Waiting [] h = third
    by Waiting (k ∷ ks) h = first
    by Acknowledged [] h = absurd h
    by Acknowledged (k ∷ ks) h = first
    by Dropped [] h = second
    by Dropped (k ∷ ks) h = absurd h

pub classes : (x : Identity) (qs : List Request) → AllByRecursion IsFit qs
    → add_rows (sum_of x (delivered qs)) (add_rows (sum_of x (dead qs)) (sum_of x (outbox qs)))
    ≡ sum_of x (sent qs)
classes x [] a = ap (add_rows (sum_of x [])) (sym (none_beside x [])) ∙ sym (none_beside x [])
classes x (q ∷ qs) a = class_one x q (delivered qs) (dead qs) (outbox qs) a.0
    ∙ (ap (add_rows (sum_of x q.points)) (classes x qs a.1) ∙ sym (sum_append x q.points (sent qs)))
