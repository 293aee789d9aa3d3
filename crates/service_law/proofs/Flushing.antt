-- The machine's books beside a history: a checkpoint's flush, a quarantine and a release.
use Rattle.std.proofs.Common.{◌≡◌, ℕ, Bool, true, false, cond, not, ◌&&◌, ◌||◌, ⊎_elim}
use Rattle.std.proofs.Common.{List, [], ◌∷◌, ◌++◌, map, max, refl, ap, sym, ◌∙◌, subst}
use Rattle.std.specs.List.{list_any, list_all, filter}
use Rattle.std.proofs.lemmas.Bool.{and_parts, and_from, cases_Bool, not-true, both_ways}
use Rattle.series_id.specs.Identity.{Identity, row_length}
use Rattle.series_id.specs.Order.{same_series}
use Rattle.series_id.proofs.Order.{same_series-exact}
use Rattle.metric_events.specs.History.{History, ◌▸◌}
use Rattle.metric_events.specs.Points.{points, is_among, is_home, is_in_flight, landed, taken}
use Rattle.metric_events.specs.Running.{held_senders, is_other_sender}
use Rattle.metric_events.specs.Senders.{same_sender}
use Rattle.metric_events.specs.Series.{is_of, of_series, owner, frontier, row_sum}
use Rattle.metric_events.specs.Standing.{stands}
use Rattle.metric_events.specs.Legal.{is_held}
use Rattle.metric_events.specs.Recovery.{are_in_turn}
use Rattle.metric_events.specs.declared.accepted.Accepted.{Accepted}
use Rattle.metric_events.specs.declared.place.Place.{Place}
use Rattle.metric_events.specs.declared.place.Place.TheVariants.{Home, Acknowledged}
use Rattle.metric_events.specs.declared.event.Event.TheVariants.{Settle, Quarantine, Lift}
use Rattle.metric_events.proofs.Lists.{all_last, any_none, any_map, all_weaker, filter_none}
use Rattle.metric_events.proofs.Senders.{same_sender-exact}
use Rattle.metric_events.proofs.Fits.{taken_point, landed_point}
use Rattle.metric_events.proofs.Owners.{is_by_or_other}
use Rattle.metric_events.proofs.Recovering.{all_own}
use Rattle.metric_events.proofs.Turns.{Keeps, keeps_landed}
use Rattle.metric_events.proofs.Congruence.{held_next}
use Rattle.service_law.specs.Machine.{Run, book, group_of}
use Rattle.service_law.specs.Known.{Knows}
use Rattle.service_law.proofs.Bookkeeping.{one_owner}

-- points in other places

pub any_kept : (g : Accepted → Accepted) → Keeps g → (x : Identity) (qs : List Accepted)
    → list_any (is_of x) (map g qs) ≡ list_any (is_of x) qs
any_kept g k x qs = any_map (is_of x) g (λ a. ap (λ p. same_series p.series x) (k.point a)) qs

pub owner_kept : (g : Accepted → Accepted) → Keeps g → (x : Identity) (qs : List Accepted)
    → owner x (map g qs) ≡ owner x qs
owner_kept g k x [] = refl
owner_kept g k x (a ∷ qs) = ap (λ p. cond (same_series p.series x) (g a).sender
    (owner x (map g qs))) (k.point a)
    ∙ (ap (λ s. cond (is_of x a) s (owner x (map g qs))) (k.sender a)
    ∙ ap (λ s. cond (is_of x a) a.sender s) (owner_kept g k x qs))

pub frontier_kept : (g : Accepted → Accepted) → Keeps g → (x : Identity) (qs : List Accepted)
    → frontier x (map g qs) ≡ frontier x qs
frontier_kept g k x [] = refl
frontier_kept g k x (a ∷ qs) = ap (λ p. cond (same_series p.series x)
    (max p.span.end (frontier x (map g qs))) (frontier x (map g qs))) (k.point a)
    ∙ ap (λ n. cond (is_of x a) (max a.point.span.end n) n) (frontier_kept g k x qs)

-- what is pending of a series behind a flush that does not take it

abbrev home_of : Identity → List Accepted → List Accepted
home_of x qs = filter (stands is_home) (of_series x qs)

not_taken : (f : ℕ) (series : List Identity) (x : Identity) (a : Accepted) → is_of x a ≡ true
    → is_among x series ≡ false → taken f series a ≡ a
not_taken f series x a e m = by (is_home a.place) refl
  where
    apart : is_among a.point.series series ≡ false
    apart = subst (λ (y : Identity). is_among y series ≡ false)
        (sym (same_series-exact a.point.series x e)) m

    by : (v : Bool) → is_home a.place ≡ v → taken f series a ≡ a
    by true h = rw (h, apart) refl
    by false h = rw h refl

pub all_left : (f : ℕ) (series : List Identity) (x : Identity) (qs : List Accepted)
    → is_among x series ≡ false → of_series x (map (taken f series) qs) ≡ of_series x qs
all_left f series x [] m = refl
all_left f series x (a ∷ qs) m = both (is_of x a) refl (all_left f series x qs m)
  where
    same : is_of x (taken f series a) ≡ is_of x a
    same = ap (λ p. same_series p.series x) (taken_point f series a)

    both : (v : Bool) → is_of x a ≡ v → of_series x (map (taken f series) qs) ≡ of_series x qs
        → of_series x (map (taken f series) (a ∷ qs)) ≡ of_series x (a ∷ qs)
    both true e r = ap (λ v. cond v (taken f series a ∷ of_series x (map (taken f series) qs))
        (of_series x (map (taken f series) qs))) (same ∙ e)
        ∙ (ap (λ b. b ∷ of_series x (map (taken f series) qs)) (not_taken f series x a e m)
        ∙ (ap (λ us. a ∷ us) r
        ∙ sym (ap (λ v. cond v (a ∷ of_series x qs) (of_series x qs)) e)))
    both false e r = ap (λ v. cond v (taken f series a ∷ of_series x (map (taken f series) qs))
        (of_series x (map (taken f series) qs))) (same ∙ e)
        ∙ (r ∙ sym (ap (λ v. cond v (a ∷ of_series x qs) (of_series x qs)) e))

-- what is pending of a series in the machine's books, of quarantined senders

pub held_of : (t : List ℕ → Bool) (x : Identity) (s : List ℕ) (qs : List Accepted)
    → list_all (is_by_or_other x s) qs ≡ true
    → of_series x (filter (λ (a : Accepted). t a.sender) qs) ≡ cond (t s) (of_series x qs) []
held_of t x s [] h =
    elim (t s) as (λ v. of_series x [] ≡ cond v (of_series x []) []) [ true ↦ refl | false ↦ refl ]
held_of t x s (a ∷ qs) h = both (is_of x a) (t a.sender) refl refl l.0 (held_of t x s qs l.1)
  where
    l : (is_by_or_other x s a ≡ true) × (list_all (is_by_or_other x s) qs ≡ true)
    l = and_parts (is_by_or_other x s a) (list_all (is_by_or_other x s) qs) h

    us : List Accepted
    us = filter (λ (a : Accepted). t a.sender) qs

    both : (v w : Bool) → is_of x a ≡ v → t a.sender ≡ w → is_by_or_other x s a ≡ true
        → of_series x us ≡ cond (t s) (of_series x qs) []
        → of_series x (cond (t a.sender) (a ∷ us) us)
        ≡ cond (t s) (cond (is_of x a) (a ∷ of_series x qs) (of_series x qs)) []
    both false true e g k r = ap (λ v. of_series x (cond v (a ∷ us) us)) g
        ∙ (ap (λ v. cond v (a ∷ of_series x us) (of_series x us)) e
        ∙ (r ∙ ap (λ v. cond (t s) (cond v (a ∷ of_series x qs) (of_series x qs)) []) (sym e)))
    both false false e g k r = ap (λ v. of_series x (cond v (a ∷ us) us)) g
        ∙ (r ∙ ap (λ v. cond (t s) (cond v (a ∷ of_series x qs) (of_series x qs)) []) (sym e))
    both true w e g k r =
        let own : a.sender ≡ s = same_sender-exact a.sender s
        (let q : (not true || same_sender a.sender s) ≡ true = rw e at k in q) in
        let ts : t s ≡ w = ap t (sym own) ∙ g in
        ap (λ v. of_series x (cond v (a ∷ us) us)) g
        ∙ (last w (r ∙ ap (λ v. cond v (of_series x qs) []) ts)
        ∙ (ap (λ v. cond v (a ∷ of_series x qs) []) (sym ts)
        ∙ ap (λ v. cond (t s) (cond v (a ∷ of_series x qs) (of_series x qs)) [])
        (sym e)))
      where
        last : (w : Bool) → of_series x us ≡ cond w (of_series x qs) []
            → of_series x (cond w (a ∷ us) us) ≡ cond w (a ∷ of_series x qs) []
        last true r = ap (λ v. cond v (a ∷ of_series x us) (of_series x us)) e ∙ ap (λ vs. a ∷ vs) r
        last false r = r

pub own_pending : (r : Run) (x : Identity) → are_in_turn [] (book r) ≡ true
    → list_all (is_by_or_other x (owner x (book r))) r.pending ≡ true
own_pending r x t = all_last (is_by_or_other x (owner x (book r))) (group_of r.checkpoint) r.pending
    (all_last (is_by_or_other x (owner x (book r))) r.known (group_of r.checkpoint ++ r.pending)
    (⊎_elim (λ e. all_own x (book r) (one_owner (book r) t) e) (λ e. none e)
    (cases_Bool (list_any (is_of x) (book r)))))
  where
    none : list_any (is_of x) (book r) ≡ false
        → list_all (is_by_or_other x (owner x (book r))) (book r) ≡ true
    none e = all_weaker (λ a. not (is_of x a)) (is_by_or_other x (owner x (book r)))
        (λ a n. ap (λ v. v || same_sender a.sender (owner x (book r))) n) (book r)
        (any_none (is_of x) (book r) e)

-- a series that a flush may take has no quarantined owner, if it has a point
pub freed : (series : List Identity) (held : List (List ℕ)) (x : Identity) (qs : List Accepted)
    → list_all (λ a. not (is_among a.point.series series && is_held a.sender held)) qs ≡ true
    → is_among x series ≡ true → is_held (owner x qs) held ≡ true
    → list_any (is_of x) qs ≡ false
freed series held x [] l a o = refl
freed series held x (b ∷ qs) l a o = both (is_of x b) refl (freed series held x qs p.1 a)
  where
    p : (not (is_among b.point.series series && is_held b.sender held) ≡ true)
        × (list_all (λ a. not (is_among a.point.series series && is_held a.sender held)) qs ≡ true)
    p = and_parts (not (is_among b.point.series series && is_held b.sender held))
        (list_all (λ a. not (is_among a.point.series series && is_held a.sender held)) qs) l

    both : (v : Bool) → is_of x b ≡ v
        → (is_held (owner x qs) held ≡ true → list_any (is_of x) qs ≡ false)
        → list_any (is_of x) (b ∷ qs) ≡ false
    both true e r =
        let among : is_among b.point.series series ≡ true =
        subst (λ (y : Identity). is_among y series ≡ true)
        (sym (same_series-exact b.point.series x e)) a in
        let held_here : is_held b.sender held ≡ true =
        sym (ap (λ v. is_held (cond v b.sender (owner x qs)) held) e) ∙ o in
        absurd (both_ways _ (not-true _ p.0) (and_from _ _ among held_here))
    both false e r = ap (λ v. v || list_any (is_of x) qs) e
        ∙ r (sym (ap (λ v. is_held (cond v b.sender (owner x qs)) held) e) ∙ o)

pub nothing_pending : (r : Run) (x : Identity) → list_any (is_of x) (book r) ≡ false
    → of_series x r.pending ≡ []
nothing_pending r x e = filter_none (is_of x) r.pending
    (all_last (λ a. not (is_of x a)) (group_of r.checkpoint) r.pending
    (all_last (λ a. not (is_of x a)) r.known (group_of r.checkpoint ++ r.pending)
    (any_none (is_of x) (book r) e)))

-- the owner of a series is quarantined in both, or in none
pub owned : (E : History) (r : Run) → Knows E r → (x : Identity)
    → is_held (owner x (book r)) r.held ≡ is_held (owner x (points E)) (held_senders E)
owned E r k x = k.held (owner x (book r)) ∙ ap (λ s. is_held s (held_senders E)) (k.owners x)

pub flies : (f : ℕ) (p : Place) → is_in_flight f p ≡ true → is_home p ≡ false
flies f Home h = absurd (let q : false ≡ true = h in cc q)
flies f place h = refl

one_landed : (f : ℕ) (a : Accepted) (us vs : List Accepted)
    → filter (stands is_home) vs ≡ filter (stands is_home) us
    → filter (stands is_home) (landed f Acknowledged a ∷ vs) ≡ filter (stands is_home) (a ∷ us)
one_landed f a us vs r = by (is_in_flight f a.place) refl
  where
    by : (v : Bool) → is_in_flight f a.place ≡ v
        → filter (stands is_home) (landed f Acknowledged a ∷ vs) ≡ filter (stands is_home) (a ∷ us)
    by true h = rw h (r ∙ sym (ap (λ v. cond v (a ∷ filter (stands is_home) us)
        (filter (stands is_home) us)) (flies f a.place h)))
    by false h = rw h (ap (λ ws. cond (is_home a.place) (a ∷ ws) ws) r)

home_landed : (f : ℕ) (x : Identity) (qs : List Accepted)
    → home_of x (map (landed f Acknowledged) qs) ≡ home_of x qs
home_landed f x [] = refl
home_landed f x (a ∷ qs) = both (is_of x a) refl (home_landed f x qs)
  where
    us : List Accepted
    us = of_series x (map (landed f Acknowledged) qs)

    same : is_of x (landed f Acknowledged a) ≡ is_of x a
    same = ap (λ p. same_series p.series x) (landed_point f Acknowledged a)

    both : (v : Bool) → is_of x a ≡ v → home_of x (map (landed f Acknowledged) qs) ≡ home_of x qs
        → home_of x (map (landed f Acknowledged) (a ∷ qs)) ≡ home_of x (a ∷ qs)
    both true e r = ap (λ v. filter (stands is_home) (cond v (landed f Acknowledged a ∷ us) us))
        (same ∙ e) ∙ (one_landed f a (of_series x qs) us r
        ∙ sym (ap (λ v. filter (stands is_home) (cond v (a ∷ of_series x qs) (of_series x qs)))
        e))
    both false e r = ap (λ v. filter (stands is_home) (cond v (landed f Acknowledged a ∷ us) us))
        (same ∙ e) ∙ (r ∙ sym
        (ap (λ v. filter (stands is_home) (cond v (a ∷ of_series x qs) (of_series x qs))) e))

pub settled_law : (E : History) (r : Run) (f : ℕ) → Knows E r → Knows (E ▸ Settle f) r
settled_law E r f k = record {
  any = λ x. k.any x
      ∙ sym (any_kept (landed f Acknowledged) (keeps_landed f Acknowledged) x (points E));
  owners = λ x. k.owners x
      ∙ sym (owner_kept (landed f Acknowledged) (keeps_landed f Acknowledged) x (points E));
  frontiers = λ x. k.frontiers x
      ∙ sym (frontier_kept (landed f Acknowledged) (keeps_landed f Acknowledged) x (points E));
  sums = λ x. k.sums x ∙ sym (ap (row_sum (row_length x.kind)) (home_landed f x (points E)));
  held = k.held;
}

pub quarantined_law : (E : History) (r : Run) (s : List ℕ) → Knows E r
    → Knows (E ▸ Quarantine s) (record r { held = r.held ++ s ∷ [] })
quarantined_law E r s k = record {
  any = k.any;
  owners = k.owners;
  frontiers = k.frontiers;
  sums =
      k.sums;
  held = held_next (Quarantine s) (held_senders E) r.held k.held;
}

pub lifted_law : (E : History) (r : Run) (s : List ℕ) → Knows E r
    → Knows (E ▸ Lift s) (record r { held = filter (is_other_sender s) r.held })
lifted_law E r s k = record {
  any = k.any;
  owners = k.owners;
  frontiers = k.frontiers;
  sums =
      k.sums;
  held = held_next (Lift s) (held_senders E) r.held k.held;
}
