-- The same points, in an order that is the same within each series: how such lists go together.
use Rattle.std.proofs.Common.{◌≡◌, ℕ, Bool, true, false, cond, not, ◌&&◌, List, [], ◌∷◌, ◌++◌, map}
use Rattle.std.proofs.Common.{refl, ap, sym, ◌∙◌, subst, append_assoc}
use Rattle.std.specs.Prelude.{nat_le}
use Rattle.std.specs.List.{list_all, filter}
use Rattle.std.proofs.lemmas.Bool.{and_parts, and_from, or_cases, cond-true, not_from_true}
use Rattle.std.proofs.lemmas.Bool.{not_from_false}
use Rattle.std.proofs.Common.{⊎_elim}
use Rattle.std.proofs.lemmas.List.{append-nil}
use Rattle.std.proofs.lemmas.List.Elements.{filter-append}
use Rattle.series_id.specs.Identity.{Identity}
use Rattle.series_id.specs.Order.{same_series}
use Rattle.series_id.proofs.Order.{same_series-exact}
use Rattle.metric_events.specs.DataPoint.{DataPoint}
use Rattle.metric_events.specs.Points.{admitted}
use Rattle.metric_events.specs.Senders.{same_sender}
use Rattle.metric_events.specs.Series.{is_of, of_series}
use Rattle.metric_events.specs.Legal.{is_clear, is_in_order}
use Rattle.metric_events.specs.Recovery.{are_in_turn, bare_points}
use Rattle.metric_events.specs.Congruence.{AreInterleaved}
use Rattle.metric_events.specs.Recall.{posted}
use Rattle.metric_events.specs.declared.accepted.Accepted.{Accepted}
use Rattle.metric_events.specs.declared.batch.Batch.{Batch}
use Rattle.metric_events.proofs.Lists.{filter-filter, filter_all, filter_keeps, filter_none}
use Rattle.metric_events.proofs.Lists.{all_weaker}
use Rattle.metric_events.proofs.Identities.{same_of}
use Rattle.metric_events.proofs.Senders.{same_sender-exact}
use Rattle.metric_events.proofs.Recovering.{turn_clearer, turn_first, turn_last, turn_order}
use Rattle.metric_events.proofs.Interleaving.{turn_own}
use Rattle.service_law.specs.Machine.{readmit}

pub same_itself : (us : List Accepted) → AreInterleaved us us
same_itself us = record { each = λ x. refl }

pub same_equal : {us vs : List Accepted} → us ≡ vs → AreInterleaved us vs
same_equal e = record { each = λ x. ap (of_series x) (sym e) }

pub same_back : {us vs : List Accepted} → AreInterleaved us vs → AreInterleaved vs us
same_back h = record { each = λ x. sym (h.each x) }

pub same_on : {us vs ws : List Accepted} → AreInterleaved us vs → AreInterleaved vs ws
    → AreInterleaved us ws
same_on h k = record { each = λ x. k.each x ∙ h.each x }

pub same_both : {us vs : List Accepted} (h : AreInterleaved us vs) {ts ws : List Accepted}
    (k : AreInterleaved ts ws) → AreInterleaved (us ++ ts) (vs ++ ws)
same_both {us} {vs} h {ts} {ws} k = record {
  each = λ x. filter-append (is_of x) vs ws
      ∙ (ap (λ qs. qs ++ of_series x ws) (h.each x)
      ∙ (ap (λ qs. of_series x us ++ qs) (k.each x) ∙ sym (filter-append (is_of x) us ts)));
}

pub same_filter : (t : Accepted → Bool) {us vs : List Accepted} → AreInterleaved us vs
    → AreInterleaved (filter t us) (filter t vs)
same_filter t {us} {vs} h = record {
  each = λ x. filter-filter (is_of x) t vs
      ∙ (ap (filter t) (h.each x) ∙ sym (filter-filter (is_of x) t us));
}

-- the points of posts

pub posted-append : (ps qs : List Batch) → posted (ps ++ qs) ≡ posted ps ++ posted qs
posted-append [] qs = refl
posted-append (p ∷ ps) qs = ap (λ us. bare_points p ++ us) (posted-append ps qs)
    ∙ sym (append_assoc (bare_points p) (posted ps) (posted qs))

nothing : List Accepted
nothing = []

by_sender : (t : List ℕ → Bool) (s : List ℕ) (ds : List DataPoint)
    → filter (λ (a : Accepted). t a.sender) (map (admitted 0 s) ds)
    ≡ cond (t s) (map (admitted 0 s) ds) []
by_sender t s [] = elim (t s) as (λ v. filter (λ (a : Accepted). t a.sender) [] ≡ cond v [] [])
    [ true ↦ refl | false ↦ refl ]
by_sender t s (d ∷ ds) = both (t s) refl (by_sender t s ds)
  where
    both : (v : Bool) → t s ≡ v → filter (λ (a : Accepted). t a.sender) (map (admitted 0 s) ds)
        ≡ cond (t s) (map (admitted 0 s) ds) []
        → filter (λ (a : Accepted). t a.sender) (map (admitted 0 s) (d ∷ ds))
        ≡ cond (t s) (map (admitted 0 s) (d ∷ ds)) []
    both true e r = rw e (ap (λ us. admitted 0 s d ∷ us) (rw e at r))
    both false e r = rw e (rw e at r)

pub posted-filter : (t : List ℕ → Bool) (ps : List Batch)
    → posted (filter (λ (p : Batch). t p.sender) ps)
    ≡ filter (λ (a : Accepted). t a.sender) (posted ps)
posted-filter t [] = refl
posted-filter t (p ∷ ps) =
    (elim (t p.sender) as (λ v. posted
    (cond v (p ∷ filter (λ (q : Batch). t q.sender) ps) (filter (λ (q : Batch). t q.sender) ps))
    ≡ cond v (bare_points p) [] ++ posted (filter (λ (q : Batch). t q.sender) ps))
    [ true ↦ refl | false ↦ refl ])
    ∙ (ap (λ us. cond (t p.sender) (bare_points p) [] ++ us) (posted-filter t ps)
    ∙ (ap (λ us. us ++ filter (λ (a : Accepted). t a.sender) (posted ps))
    (sym (by_sender t p.sender p.points))
    ∙ sym (filter-append (λ (a : Accepted). t a.sender) (bare_points p) (posted ps))))

-- the points of a series that are in turn have one sender

after_own : (x : Identity) (a b : Accepted) → is_of x a ≡ true → is_of x b ≡ true
    → is_clear b.sender b.point a.point a.sender ≡ true → same_sender a.sender b.sender ≡ true
after_own x a b e g c =
    ⊎_elim (λ n. absurd (let q : false ≡ true =
    sym (not_from_true (same_series a.point.series b.point.series) same) ∙ n in cc q))
    (λ m. (and_parts (same_sender a.sender b.sender) (nat_le a.point.span.end b.point.span.start)
    m).0)
    (or_cases (not (same_series a.point.series b.point.series))
    (same_sender a.sender b.sender && nat_le a.point.span.end b.point.span.start) c)
  where
    same : same_series a.point.series b.point.series ≡ true
    same = same_of a.point.series b.point.series
        (same_series-exact a.point.series x e ∙ sym (same_series-exact b.point.series x g))

pub all_own : (x : Identity) (a : Accepted) (bs us : List Accepted) → is_of x a ≡ true
    → list_all (is_of x) us ≡ true → are_in_turn (a ∷ bs) us ≡ true
    → list_all (λ b. same_sender a.sender b.sender) us ≡ true
all_own x a bs [] e g h = refl
all_own x a bs (b ∷ us) e g h =
    let l = and_parts (list_all (λ q. is_clear b.sender b.point q.point q.sender) (a ∷ bs))
    (are_in_turn (a ∷ (bs ++ b ∷ [])) us) h in
    let o = and_parts (is_of x b) (list_all (is_of x) us) g in
    let c = and_parts (is_clear b.sender b.point a.point a.sender)
    (list_all (λ q. is_clear b.sender b.point q.point q.sender) bs) l.0 in
    and_from (same_sender a.sender b.sender) (list_all (λ c. same_sender a.sender c.sender) us)
    (after_own x a b e o.0 c.0) (all_own x a (bs ++ b ∷ []) us e o.1 l.1)

all_or_none : (t : List ℕ → Bool) (us : List Accepted) (a : Accepted)
    → list_all (λ b. same_sender a.sender b.sender) us ≡ true
    → filter (λ (b : Accepted). not (t b.sender)) (a ∷ us)
    ++ filter (λ (b : Accepted). t b.sender) (a ∷ us) ≡ a ∷ us
all_or_none t us a h = both (t a.sender) refl
  where
    both : (v : Bool) → t a.sender ≡ v
        → filter (λ (b : Accepted). not (t b.sender)) (a ∷ us)
        ++ filter (λ (b : Accepted). t b.sender) (a ∷ us) ≡ a ∷ us
    both true e =
        let k : list_all (λ (b : Accepted). t b.sender) (a ∷ us) ≡ true =
        and_from (t a.sender) (list_all (λ (b : Accepted). t b.sender) us) e
        (all_weaker (λ b. same_sender a.sender b.sender) (λ b. t b.sender)
        (λ b g. subst (λ s. t s ≡ true) (same_sender-exact a.sender b.sender g) e) us h)
        in
        ap (λ vs. vs ++ filter (λ (b : Accepted). t b.sender) (a ∷ us))
        (filter_none (λ (b : Accepted). not (t b.sender)) (a ∷ us)
        (all_weaker (λ (b : Accepted). t b.sender) (λ b. not (not (t b.sender)))
        (λ b g. not_from_false _ (not_from_true _ g)) (a ∷ us) k))
        ∙ filter_keeps (λ (b : Accepted). t b.sender) (a ∷ us) k
    both false e =
        let k : list_all (λ (b : Accepted). not (t b.sender)) (a ∷ us) ≡ true =
        and_from (not (t a.sender)) (list_all (λ (b : Accepted). not (t b.sender)) us)
        (not_from_false _ e) (all_weaker (λ b. same_sender a.sender b.sender)
        (λ b. not (t b.sender)) (λ b g. subst (λ s. not (t s) ≡ true)
        (same_sender-exact a.sender b.sender g) (not_from_false _ e)) us h) in
        ap (λ vs. filter (λ (b : Accepted). not (t b.sender)) (a ∷ us) ++ vs)
        (filter_none (λ (b : Accepted). t b.sender) (a ∷ us) k)
        ∙ (append-nil (filter (λ (b : Accepted). not (t b.sender)) (a ∷ us))
        ∙ filter_keeps (λ (b : Accepted). not (t b.sender)) (a ∷ us) k)

own_parted : (t : List ℕ → Bool) (x : Identity) (us : List Accepted) → list_all (is_of x) us ≡ true
    → are_in_turn [] us ≡ true
    → filter (λ (b : Accepted). not (t b.sender)) us ++ filter (λ (b : Accepted). t b.sender) us
    ≡ us
own_parted t x [] o h = refl
own_parted t x (a ∷ us) o h =
    let l = and_parts (is_of x a) (list_all (is_of x) us) o in
    all_or_none t us a (all_own x a [] us l.0 l.1 h)

-- so those of some senders may come last
pub parted : (t : List ℕ → Bool) (qs : List Accepted) → are_in_turn [] qs ≡ true
    → AreInterleaved qs (filter (λ (b : Accepted). not (t b.sender)) qs
    ++ filter (λ (b : Accepted). t b.sender) qs)
parted t qs h = record {
  each = λ x.
      filter-append (is_of x) (filter (λ (b : Accepted). not (t b.sender)) qs)
      (filter (λ (b : Accepted). t b.sender) qs)
      ∙ (ap (λ us. us ++ of_series x (filter (λ (b : Accepted). t b.sender) qs))
      (filter-filter (is_of x) (λ (b : Accepted). not (t b.sender)) qs)
      ∙ (ap (λ us. filter (λ (b : Accepted). not (t b.sender)) (of_series x qs) ++ us)
      (filter-filter (is_of x) (λ (b : Accepted). t b.sender) qs)
      ∙ own_parted t x (of_series x qs) (filter_all (is_of x) qs) (turn_own x qs [] h)));
}

-- what is in turn behind others is in turn
pub turn_bare : (qs us : List Accepted) → are_in_turn qs us ≡ true → are_in_turn [] us ≡ true
turn_bare qs us h = turn_clearer us qs [] (record { all = λ s p k. refl }) h

-- a fresh book takes all posts that are in turn
pub readmitted_all : (known pending : List Accepted) (ps : List Batch)
    → are_in_turn (known ++ pending) (posted ps) ≡ true
    → readmit known pending ps ≡ pending ++ posted ps
readmitted_all known pending [] h = sym (append-nil pending)
readmitted_all known pending (p ∷ ps) h =
    let first : is_in_order (known ++ pending) p.sender p.points ≡ true =
    sym (turn_order p.sender p.points (known ++ pending))
    ∙ turn_first (known ++ pending) (bare_points p) (posted ps) h in
    let rest : are_in_turn (known ++ (pending ++ bare_points p)) (posted ps) ≡ true =
    subst (λ (us : List Accepted). are_in_turn us (posted ps) ≡ true)
    (append_assoc known pending (bare_points p))
    (turn_last (known ++ pending) (bare_points p) (posted ps) h) in
    cond-true (is_in_order (known ++ pending) p.sender p.points) _ _ first
    ∙ (readmitted_all known (pending ++ bare_points p) ps rest
    ∙ append_assoc pending (bare_points p) (posted ps))
