-- What a journal has of a history that was cut off is a history: without the flushes, and without
-- some batches, there is no more of anything.
use Rattle.std.proofs.Common.{◌≡◌, ℕ, ◌==◌, ◌+◌, ◌≤◌, Bool, true, false, cond, not, ◌&&◌, ◌||◌}
use Rattle.std.proofs.Common.{List, [], ◌∷◌, ◌++◌, map, length, refl, ap, sym, ◌∙◌, subst, arith}
use Rattle.std.proofs.Common.{append_assoc}
use Rattle.std.specs.List.{list_all, filter}
use Rattle.std.proofs.lemmas.Bool.{and_parts, and_from, or_left, eqb-true, eq-eqb}
use Rattle.std.proofs.lemmas.List.{append-nil, map-append}
use Rattle.std.proofs.lemmas.List.Elements.{filter-append}
use Rattle.series_id.specs.Identity.{Identity}
use Rattle.metric_events.specs.DataPoint.{DataPoint}
use Rattle.metric_events.specs.Rows.{add_rows}
use Rattle.metric_events.specs.History.{History, Start, Opened, ◌▸◌, ◌then◌, entries, IsNewBatch}
use Rattle.metric_events.specs.History.{IsNewFlush}
use Rattle.metric_events.specs.Points.{points, is_home, taken, landed, admitted, is_of_other_batch}
use Rattle.metric_events.specs.Running.{open_after, open_batches, live_flushes, held_after}
use Rattle.metric_events.specs.Running.{held_senders, is_another}
use Rattle.metric_events.specs.Series.{sum_of}
use Rattle.metric_events.specs.Standing.{stands}
use Rattle.metric_events.specs.Legal.{IsLegal, is_open, is_held, is_in_live}
use Rattle.metric_events.specs.Close.{close}
use Rattle.metric_events.specs.Recovery.{bare, homes, is_not_home, FlushesNothing, Numbered}
use Rattle.metric_events.specs.Recovery.{bare_points, all_points, IsAtMost}
use Rattle.metric_events.specs.Congruence.{IsCalm, lived, AreRounds}
use Rattle.metric_events.specs.Recall.{moved, news, unfolded}
use Rattle.metric_events.specs.Unflushed.{kept, confirmed, survived, UndoesNone, posts_in, Survives}
use Rattle.metric_events.specs.declared.accepted.Accepted.{Accepted}
use Rattle.metric_events.specs.declared.batch.Batch.{Batch}
use Rattle.metric_events.specs.declared.place.Place.{Place}
use Rattle.metric_events.specs.declared.place.Place.TheVariants.{Home, Acknowledged, Dropped}
use Rattle.metric_events.specs.declared.event.Event.TheVariants.{Admit, Undo, Confirm, Take, Settle}
use Rattle.metric_events.specs.declared.event.Event.TheVariants.{Drop, GiveBack, Quarantine, Lift}
use Rattle.metric_events.proofs.Lists.{all_append, all_first, all_last, all_filter, all_always}
use Rattle.metric_events.proofs.Lists.{all_weaker, any_filter_same, filter_all, filter_keeps}
use Rattle.metric_events.proofs.Lists.{filter_none, filter-map, filter-filter, length_filter}
use Rattle.metric_events.proofs.Fewer.{Fewer, may_admit, may_quarantine}
use Rattle.metric_events.proofs.Invariants.{new_points, new_batch}
use Rattle.metric_events.proofs.Fits.{sum_of-map, taken_point, landed_point}
use Rattle.metric_events.proofs.Sums.{row_le_add, row_le_same, row_le_trans, add_rows-comm}
use Rattle.metric_events.proofs.Bare.{sum_append, bare_admitted}
use Rattle.metric_events.proofs.Behind.{only_behind, open_own, news_home, live_then}
use Rattle.metric_events.proofs.Priming.{more}
use Rattle.metric_events.proofs.Unflushing.{home_taken, home_landed}

-- of fewer points

abbrev chosen_by : (DataPoint → ℕ → List ℕ → Bool) → List Accepted → List Accepted
chosen_by q qs = filter (λ a. q a.point a.batch a.sender) qs

-- rs are points of qs, wherever they are: what holds of all holds of them, and no choice of them
-- has greater sums
record Under (qs rs : List Accepted) : Type 0 where
  all : (t : DataPoint → ℕ → List ℕ → Bool) → list_all (λ a. t a.point a.batch a.sender) qs ≡ true
      → list_all (λ a. t a.point a.batch a.sender) rs ≡ true
  sums : (q : DataPoint → ℕ → List ℕ → Bool) (x : Identity)
      → IsAtMost (sum_of x (chosen_by q rs)) (sum_of x (chosen_by q qs))

under_same : (qs : List Accepted) → Under qs qs
under_same qs = record { all = λ t k. k; sums = λ q x. row_le_same (sum_of x (chosen_by q qs)) }

sum_parted : (q : DataPoint → ℕ → List ℕ → Bool) (x : Identity) (us ts : List Accepted)
    → sum_of x (chosen_by q (us ++ ts))
    ≡ add_rows (sum_of x (chosen_by q us)) (sum_of x (chosen_by q ts))
sum_parted q x us ts = ap (sum_of x)
    (filter-append (λ (a : Accepted). q a.point a.batch a.sender) us ts)
    ∙ sum_append x (chosen_by q us) (chosen_by q ts)

under_append : (qs rs ts : List Accepted) → Under qs rs → Under (qs ++ ts) (rs ++ ts)
under_append qs rs ts h = record {
  all = λ t k. all_append (λ a. t a.point a.batch a.sender) rs ts
      (h.all t (all_first (λ a. t a.point a.batch a.sender) qs ts k))
      (all_last (λ a. t a.point a.batch a.sender) qs ts k);
  sums = λ q x.
      subst (λ ws. IsAtMost ws (sum_of x (chosen_by q (qs ++ ts)))) (sym (sum_parted q x rs ts))
      (subst (λ ws. IsAtMost (add_rows (sum_of x (chosen_by q rs)) (sum_of x (chosen_by q ts))) ws)
      (sym (sum_parted q x qs ts))
      (more (sum_of x (chosen_by q rs)) (sum_of x (chosen_by q qs)) (sum_of x (chosen_by q ts))
      (h.sums q x)));
}

under_left : (qs rs ts : List Accepted) → Under qs rs → Under (qs ++ ts) rs
under_left qs rs ts h = record {
  all = λ t k. h.all t (all_first (λ a. t a.point a.batch a.sender) qs ts k);
  sums = λ q x.
      subst (λ ws. IsAtMost (sum_of x (chosen_by q rs)) ws)
      (sym (sum_parted q x qs ts
      ∙ add_rows-comm (sum_of x (chosen_by q qs)) (sum_of x (chosen_by q ts))))
      (row_le_trans (sum_of x (chosen_by q rs)) (sum_of x (chosen_by q qs))
      (add_rows (sum_of x (chosen_by q ts)) (sum_of x (chosen_by q qs))) (h.sums q x)
      (row_le_add (sum_of x (chosen_by q ts)) (sum_of x (chosen_by q qs))));
}

under_map : (g : Accepted → Accepted) → ((a : Accepted) → (g a).point ≡ a.point)
    → ((t : DataPoint → ℕ → List ℕ → Bool) (a : Accepted)
    → t (g a).point (g a).batch (g a).sender ≡ t a.point a.batch a.sender)
    → (qs rs : List Accepted) → Under qs rs → Under (map g qs) rs
under_map g p e qs rs h = record {
  all = λ t k. h.all t (before t qs k);
  sums = λ q x. subst (λ ws. IsAtMost (sum_of x (chosen_by q rs)) ws)
      (sym (ap (sum_of x) (filter-map (λ (a : Accepted). q a.point a.batch a.sender) g (e q) qs)
      ∙ sum_of-map x g p (chosen_by q qs))) (h.sums q x);
}
  where
    before : (t : DataPoint → ℕ → List ℕ → Bool) (us : List Accepted)
        → list_all (λ a. t a.point a.batch a.sender) (map g us) ≡ true
        → list_all (λ a. t a.point a.batch a.sender) us ≡ true
    before t [] k = refl
    before t (a ∷ us) k =
        let l = and_parts (t (g a).point (g a).batch (g a).sender)
        (list_all (λ a. t a.point a.batch a.sender) (map g us)) k in
        and_from (t a.point a.batch a.sender) (list_all (λ a. t a.point a.batch a.sender) us)
        (sym (e t a) ∙ l.0) (before t us l.1)

both_filters : (p q : Accepted → Bool) (us : List Accepted)
    → filter q (filter p us) ≡ filter (λ a. p a && q a) us
both_filters p q [] = refl
both_filters p q (a ∷ us) = elim (p a)
    as (λ v. filter q (cond v (a ∷ filter p us) (filter p us))
    ≡ cond (v && q a) (a ∷ filter (λ a. p a && q a) us) (filter (λ a. p a && q a) us)) [
      | true ↦ ap (λ vs. cond (q a) (a ∷ vs) vs) (both_filters p q us)
      | false ↦ both_filters p q us
    ]

all_chosen : (p t : Accepted → Bool) (us : List Accepted)
    → list_all t (filter p us) ≡ list_all (λ a. not (p a) || t a) us
all_chosen p t [] = refl
all_chosen p t (a ∷ us) = elim (p a)
    as (λ v. list_all t (cond v (a ∷ filter p us) (filter p us))
    ≡ ((not v || t a) && list_all (λ a. not (p a) || t a) us)) [
      | true ↦ ap (λ v. t a && v) (all_chosen p t us)
      | false ↦ all_chosen p t us
    ]

under_filter : (b : ℕ) (qs rs : List Accepted) → Under qs rs
    → Under (filter (is_of_other_batch b) qs) (filter (is_of_other_batch b) rs)
under_filter b qs rs h = record {
  all = λ t k. all_chosen (is_of_other_batch b) (λ a. t a.point a.batch a.sender) rs
      ∙ h.all (λ p c s. not (not (c == b)) || t p c s)
      (sym (all_chosen (is_of_other_batch b) (λ a. t a.point a.batch a.sender) qs) ∙ k);
  sums = λ q x.
      subst (λ (us : List Accepted). IsAtMost (sum_of x us)
      (sum_of x (chosen_by q (filter (is_of_other_batch b) qs))))
      (sym (both_filters (is_of_other_batch b) (λ a. q a.point a.batch a.sender) rs))
      (subst (λ (us : List Accepted). IsAtMost
      (sum_of x (chosen_by (λ p c s. not (c == b) && q p c s) rs)) (sum_of x us))
      (sym (both_filters (is_of_other_batch b) (λ a. q a.point a.batch a.sender) qs))
      (h.sums (λ p c s. not (c == b) && q p c s) x));
}

taken_same : (f : ℕ) (series : List Identity) (t : DataPoint → ℕ → List ℕ → Bool) (a : Accepted)
    → t (taken f series a).point (taken f series a).batch (taken f series a).sender
    ≡ t a.point a.batch a.sender
taken_same f series t a = ap (λ (i : Accepted). t i.point i.batch i.sender) (home_taken f series a)

landed_same : (f : ℕ) (q : Place) (t : DataPoint → ℕ → List ℕ → Bool) (a : Accepted)
    → t (landed f q a).point (landed f q a).batch (landed f q a).sender ≡ t a.point a.batch a.sender
landed_same f q t a = ap (λ (i : Accepted). t i.point i.batch i.sender) (home_landed f q a)

-- of the events

kept_nothing : (has : ℕ → Bool) (G : History) → FlushesNothing (kept has G)
kept_nothing has (Opened O) = tt
kept_nothing has (G ▸ Admit b body) =
    elim (has b) as (λ v. FlushesNothing (cond v (kept has G ▸ Admit b body) (kept has G)))
    [ true ↦ kept_nothing has G | false ↦ kept_nothing has G ]
kept_nothing has (G ▸ Confirm b) =
    elim (has b) as (λ v. FlushesNothing (cond v (kept has G ▸ Confirm b) (kept has G)))
    [ true ↦ kept_nothing has G | false ↦ kept_nothing has G ]
kept_nothing has (G ▸ Undo b) = kept_nothing has G
kept_nothing has (G ▸ Quarantine s) = kept_nothing has G
kept_nothing has (G ▸ Lift s) = kept_nothing has G
kept_nothing has (G ▸ e) = kept_nothing has G

none_live : (has : ℕ → Bool) (E G : History) → live_flushes E ≡ []
    → live_flushes (E then kept has G) ≡ []
none_live has E G e = live_then E (kept has G) (kept_nothing has G) ∙ e

kept_short : (has : ℕ → Bool) (E G : History) → entries (E then kept has G) ≤ entries (E then G)
kept_short has E (Opened O) = omega arith
kept_short has E (G ▸ Admit b body) =
    elim (has b) as (λ v. entries (E then cond v (kept has G ▸ Admit b body) (kept has G))
    ≤ entries (E then G) + 1) [
      | true ↦ omega (arith, kept_short has E G)
      | false ↦ omega (arith, kept_short has E G)
    ]
kept_short has E (G ▸ Confirm b) =
    elim (has b) as (λ v. entries (E then cond v (kept has G ▸ Confirm b) (kept has G))
    ≤ entries (E then G) + 1) [
      | true ↦ omega (arith, kept_short has E G)
      | false ↦ omega (arith, kept_short has E G)
    ]
kept_short has E (G ▸ Undo b) = omega (arith, kept_short has E G)
kept_short has E (G ▸ Take f series) = omega (arith, kept_short has E G)
kept_short has E (G ▸ Settle f) = omega (arith, kept_short has E G)
kept_short has E (G ▸ Drop f) = omega (arith, kept_short has E G)
kept_short has E (G ▸ GiveBack f) = omega (arith, kept_short has E G)
kept_short has E (G ▸ Quarantine s) = omega (arith, kept_short has E G)
kept_short has E (G ▸ Lift s) = omega (arith, kept_short has E G)

kept_held : (has : ℕ → Bool) (E G : History)
    → held_senders (E then kept has G) ≡ held_senders (E then G)
kept_held has E (Opened O) = refl
kept_held has E (G ▸ Admit b body) =
    elim (has b) as (λ v. held_senders (E then cond v (kept has G ▸ Admit b body) (kept has G))
    ≡ held_senders (E then G)) [ true ↦ kept_held has E G | false ↦ kept_held has E G ]
kept_held has E (G ▸ Confirm b) = elim (has b)
    as (λ v. held_senders (E then cond v (kept has G ▸ Confirm b) (kept has G))
    ≡ held_senders (E then G)) [ true ↦ kept_held has E G | false ↦ kept_held has E G ]
kept_held has E (G ▸ Undo b) = kept_held has E G
kept_held has E (G ▸ Quarantine s) = ap (held_after (Quarantine s)) (kept_held has E G)
kept_held has E (G ▸ Lift s) = ap (held_after (Lift s)) (kept_held has E G)
kept_held has E (G ▸ e) = kept_held has E G

kept_new : (has : ℕ → Bool) (n : ℕ) (E G : History) → IsNewBatch n (E then G)
    → IsNewBatch n (E then kept has G)
kept_new has n E (Opened O) h = h
kept_new has n E (G ▸ Admit b body) h =
    elim (has b) as (λ v. IsNewBatch n (E then cond v (kept has G ▸ Admit b body) (kept has G)))
    [ true ↦ (h.0, kept_new has n E G h.1) | false ↦ kept_new has n E G h.1 ]
kept_new has n E (G ▸ Confirm b) h =
    elim (has b) as (λ v. IsNewBatch n (E then cond v (kept has G ▸ Confirm b) (kept has G)))
    [ true ↦ kept_new has n E G h | false ↦ kept_new has n E G h ]
kept_new has n E (G ▸ Undo b) h = kept_new has n E G h
kept_new has n E (G ▸ Quarantine s) h = kept_new has n E G h
kept_new has n E (G ▸ Lift s) h = kept_new has n E G h
kept_new has n E (G ▸ e) h = kept_new has n E G h

kept_new_flush : (has : ℕ → Bool) (n : ℕ) (E G : History) → IsNewFlush n (E then G)
    → IsNewFlush n (E then kept has G)
kept_new_flush has n E (Opened O) h = h
kept_new_flush has n E (G ▸ Admit b body) h =
    elim (has b) as (λ v. IsNewFlush n (E then cond v (kept has G ▸ Admit b body) (kept has G)))
    [ true ↦ kept_new_flush has n E G h | false ↦ kept_new_flush has n E G h ]
kept_new_flush has n E (G ▸ Confirm b) h =
    elim (has b) as (λ v. IsNewFlush n (E then cond v (kept has G ▸ Confirm b) (kept has G)))
    [ true ↦ kept_new_flush has n E G h | false ↦ kept_new_flush has n E G h ]
kept_new_flush has n E (G ▸ Undo b) h = kept_new_flush has n E G h
kept_new_flush has n E (G ▸ Take f series) h = kept_new_flush has n E G h.1
kept_new_flush has n E (G ▸ Settle f) h = kept_new_flush has n E G h
kept_new_flush has n E (G ▸ Drop f) h = kept_new_flush has n E G h
kept_new_flush has n E (G ▸ GiveBack f) h = kept_new_flush has n E G h
kept_new_flush has n E (G ▸ Quarantine s) h = kept_new_flush has n E G h
kept_new_flush has n E (G ▸ Lift s) h = kept_new_flush has n E G h

-- another batch than one that the journal lacks
other_than : (has : ℕ → Bool) (b c : ℕ) → has b ≡ false → has c ≡ true → not (c == b) ≡ true
other_than has b c n h = both (c == b) refl
  where
    both : (v : Bool) → (c == b) ≡ v → not (c == b) ≡ true
    both true e = absurd (let q : true ≡ false = sym h ∙ (ap has (eqb-true c b e) ∙ n) in cc)
    both false e = ap not e

open_ended : (has : ℕ → Bool) (b : ℕ) (cs : List ℕ) (v : Bool) → has b ≡ v
    → filter has (filter (is_another b) cs)
    ≡ cond v (filter (is_another b) (filter has cs)) (filter has cs)
open_ended has b cs true e = filter-filter has (is_another b) cs
open_ended has b cs false e = filter-filter has (is_another b) cs
    ∙ filter_keeps (is_another b) (filter has cs)
    (all_weaker has (is_another b) (λ c h. other_than has b c e h) (filter has cs)
    (filter_all has cs))

kept_open : (has : ℕ → Bool) (E G : History) → open_batches E ≡ [] → UndoesNone has G
    → open_batches (E then kept has G) ≡ filter has (open_batches (E then G))
kept_open has E (Opened O) e u = e ∙ sym (ap (filter has) e)
kept_open has E (G ▸ Admit b body) e u =
    elim (has b) as (λ v. open_batches (E then cond v (kept has G ▸ Admit b body) (kept has G))
    ≡ filter has (open_batches (E then G)) ++ cond v (b ∷ []) []) [
      | true ↦ ap (λ cs. cs ++ b ∷ []) (kept_open has E G e u)
      | false ↦ kept_open has E G e u ∙ sym (append-nil (filter has (open_batches (E then G))))
    ] ∙ sym (filter-append has (open_batches (E then G)) (b ∷ []))
kept_open has E (G ▸ Confirm b) e u = ended (has b) refl (kept_open has E G e u)
  where
    ended : (v : Bool) → has b ≡ v → open_batches (E then kept has G)
        ≡ filter has (open_batches (E then G))
        → open_batches (E then cond v (kept has G ▸ Confirm b) (kept has G))
        ≡ filter has (filter (is_another b) (open_batches (E then G)))
    ended true d r =
        ap (filter (is_another b)) r ∙ sym (open_ended has b (open_batches (E then G)) true d)
    ended false d r = r ∙ sym (open_ended has b (open_batches (E then G)) false d)
kept_open has E (G ▸ Undo b) e u =
    kept_open has E G e u.1 ∙ sym (open_ended has b (open_batches (E then G)) false u.0)
kept_open has E (G ▸ Take f series) e u = kept_open has E G e u
kept_open has E (G ▸ Settle f) e u = kept_open has E G e u
kept_open has E (G ▸ Drop f) e u = kept_open has E G e u
kept_open has E (G ▸ GiveBack f) e u = kept_open has E G e u
kept_open has E (G ▸ Quarantine s) e u = kept_open has E G e u
kept_open has E (G ▸ Lift s) e u = kept_open has E G e u

all_of_batch : (has : ℕ → Bool) (b : ℕ) (s : List ℕ) (ps : List DataPoint) → has b ≡ true
    → list_all (λ a. has a.batch) (map (admitted b s) ps) ≡ true
all_of_batch has b s [] h = refl
all_of_batch has b s (p ∷ ps) h = and_from (has b)
    (list_all (λ a. has a.batch) (map (admitted b s) ps)) h (all_of_batch has b s ps h)

kept_own : (has : ℕ → Bool) (G : History) → list_all (λ a. has a.batch) (news (kept has G)) ≡ true
kept_own has (Opened O) = refl
kept_own has (G ▸ Admit b body) = both (has b) refl (kept_own has G)
  where
    both : (v : Bool) → has b ≡ v → list_all (λ a. has a.batch) (news (kept has G)) ≡ true
        → list_all (λ a. has a.batch) (news (cond v (kept has G ▸ Admit b body) (kept has G)))
        ≡ true
    both true e r = all_append (λ a. has a.batch) (news (kept has G))
        (map (admitted b body.sender) body.points) r (all_of_batch has b body.sender body.points e)
    both false e r = r
kept_own has (G ▸ Confirm b) = elim (has b)
    as (λ v. list_all (λ a. has a.batch) (news (cond v (kept has G ▸ Confirm b) (kept has G)))
    ≡ true) [ true ↦ kept_own has G | false ↦ kept_own has G ]
kept_own has (G ▸ Undo b) = kept_own has G
kept_own has (G ▸ Quarantine s) = kept_own has G
kept_own has (G ▸ Lift s) = kept_own has G
kept_own has (G ▸ e) = kept_own has G

-- so it is legal

kept_fewer : (has : ℕ → Bool) (E G : History) → IsCalm E → UndoesNone has G
    → Under (points (E then G)) (points (E then kept has G)) → Fewer (E then G) (E then kept has G)
kept_fewer has E G c u h = record {
  shorter = kept_short has E G;
  few_open = omega (
    arith,
    ap length (kept_open has E G c.batches u),
    length_filter has
        (open_batches (E then G)),
  );
  few_live = omega (arith, ap length (none_live has E G c.live));
  few_held = omega (arith, ap length (kept_held has E G));
  free = λ s k. ap (is_held s) (kept_held has E G) ∙ k;
  apart = λ x k. ap (λ ls. is_in_live ls x) (none_live has E G c.live);
  fewer = record {
    all = h.all;
    sums =
        λ x. subst (λ (us : List Accepted). IsAtMost (sum_of x us) (sum_of x (points (E then G))))
        (whole (points (E then kept has G)))
        (subst (λ (us : List Accepted). IsAtMost
        (sum_of x (chosen_by (λ p b s. true) (points (E then kept has G)))) (sum_of x us))
        (whole (points (E then G))) (h.sums (λ p b s. true) x));
  };
  batches = λ b n. kept_new has b E G n;
  flushes = λ f n. kept_new_flush has f E G n;
}
  where
    whole : (us : List Accepted) → chosen_by (λ p b s. true) us ≡ us
    whole us = filter_keeps (λ (a : Accepted). true) us
        (all_always (λ (a : Accepted). true) (λ a. refl) us)

none_of : (has : ℕ → Bool) (E G : History) (b : ℕ) → IsCalm E → IsNewBatch b E → has b ≡ false
    → IsLegal (E then kept has G)
    → list_all (is_of_other_batch b) (points (E then kept has G)) ≡ true
none_of has E G b c n e l =
    ap (list_all (is_of_other_batch b))
    (only_behind E (kept has G) c.batches (kept_nothing has G) l)
    ∙ all_append (is_of_other_batch b) (points E) (news (kept has G)) (new_points b E n)
    (all_weaker (λ a. has a.batch) (is_of_other_batch b) (λ a h. other_than has b a.batch e h)
    (news (kept has G)) (kept_own has G))

open_in : (has : ℕ → Bool) (b : ℕ) (cs : List ℕ) → has b ≡ true → is_open b cs ≡ true
    → is_open b (filter has cs) ≡ true
open_in has b cs e h = any_filter_same (λ c. c == b) has (λ c k. ap has (eqb-true c b k) ∙ e) cs ∙ h

confirm_kept : (has : ℕ → Bool) (E G : History) (b : ℕ) → IsCalm E → UndoesNone has G
    → is_open b (open_batches (E then G)) ≡ true → IsLegal (E then kept has G) → (v : Bool)
    → has b ≡ v → IsLegal (E then cond v (kept has G ▸ Confirm b) (kept has G))
confirm_kept has E G b c u o l true e = (
  l,
  ap (is_open b) (kept_open has E G c.batches u)
      ∙ open_in has b (open_batches (E then G)) e o,
)
confirm_kept has E G b c u o l false e = l

keeps : (has : ℕ → Bool) (E G : History) → IsCalm E → IsLegal (E then G) → UndoesNone has G
    → IsLegal (E then kept has G) × Under (points (E then G)) (points (E then kept has G))
keeps has E (Opened O) c l u = (l, under_same (points E))
keeps has E (G ▸ Admit b body) c l u =
    let r = keeps has E G c l.0 u in
    elim (has b) as (λ v. IsLegal (E then cond v (kept has G ▸ Admit b body) (kept has G))
    × Under (points (E then G) ++ map (admitted b body.sender) body.points)
    (points (E then cond v (kept has G ▸ Admit b body) (kept has G)))) [
      | true ↦ (
        (
          r.0,
          may_admit (E then G) (E then kept has G) b body (kept_fewer has E G c u r.1)
              l.1,
        ),
        under_append (points (E then G)) (points (E then kept has G))
            (map (admitted b body.sender) body.points) r.1,
      )
      | false ↦ (
        r.0,
        under_left (points (E then G)) (points (E then kept has G))
            (map (admitted b body.sender) body.points) r.1,
      )
    ]
keeps has E (G ▸ Confirm b) c l u =
    let r = keeps has E G c l.0 u in (
      confirm_kept has E G b c u l.1 r.0 (has b) refl,
      elim (has b)
          as (λ v. Under (points (E then G))
          (points (E then cond v (kept has G ▸ Confirm b) (kept has G))))
          [ true ↦ r.1 | false ↦ r.1 ],
    )
keeps has E (G ▸ Undo b) c l u =
    let r = keeps has E G c l.0 u.1 in (
      r.0,
      subst (λ (us : List Accepted). Under (filter (is_of_other_batch b) (points (E then G)))
          us) (filter_keeps (is_of_other_batch b) (points (E then kept has G))
          (none_of has E G b c (open_own E G c.batches l.0 b l.1.opened) u.0 r.0))
          (under_filter b (points (E then G)) (points (E then kept has G)) r.1),
    )
keeps has E (G ▸ Take f series) c l u =
    let r = keeps has E G c l.0 u in (
      r.0,
      under_map (taken f series) (taken_point f series) (taken_same f series)
          (points (E then G)) (points (E then kept has G)) r.1,
    )
keeps has E (G ▸ Settle f) c l u =
    let r = keeps has E G c l.0 u in (
      r.0,
      under_map (landed f Acknowledged) (landed_point f Acknowledged)
          (landed_same f Acknowledged) (points (E then G)) (points (E then kept has G)) r.1,
    )
keeps has E (G ▸ Drop f) c l u =
    let r = keeps has E G c l.0 u in (
      r.0,
      under_map (landed f Dropped) (landed_point f Dropped) (landed_same f Dropped)
          (points (E then G)) (points (E then kept has G)) r.1,
    )
keeps has E (G ▸ GiveBack f) c l u =
    let r = keeps has E G c l.0 u in (
      r.0,
      under_map (landed f Home) (landed_point f Home) (landed_same f Home) (points (E then G))
          (points (E then kept has G)) r.1,
    )
keeps has E (G ▸ Quarantine s) c l u =
    let r = keeps has E G c l.0 u in
    ((r.0, may_quarantine (E then G) (E then kept has G) s (kept_fewer has E G c u r.1) l.1), r.1)
keeps has E (G ▸ Lift s) c l u =
    let r = keeps has E G c l.0 u in
    ((r.0, ap (is_held s) (kept_held has E G) ∙ l.1), r.1)

-- the batches that are open still, each confirmed

abbrev are_apart : List ℕ → Bool
are_apart [] = true
are_apart (b ∷ bs) = list_all (is_another b) bs && are_apart bs

turned : (b c : ℕ) → not (c == b) ≡ true → not (b == c) ≡ true
turned b c n = both (b == c) refl
  where
    both : (v : Bool) → (b == c) ≡ v → not (b == c) ≡ true
    both true e = absurd
        (let q : not true ≡ true = sym (ap not (eq-eqb c b (sym (eqb-true b c e)))) ∙ n in cc)
    both false e = ap not e

apart_push : (b : ℕ) (cs : List ℕ) → are_apart cs ≡ true → list_all (is_another b) cs ≡ true
    → are_apart (cs ++ b ∷ []) ≡ true
apart_push b [] h k = refl
apart_push b (c ∷ cs) h k =
    let p = and_parts (list_all (is_another c) cs) (are_apart cs) h in
    let q = and_parts (is_another b c) (list_all (is_another b) cs) k in
    and_from (list_all (is_another c) (cs ++ b ∷ [])) (are_apart (cs ++ b ∷ []))
    (all_append (is_another c) cs (b ∷ []) p.0
    (and_from (is_another c b) true (turned b c q.0) refl)) (apart_push b cs p.1 q.1)

apart_filter : (q : ℕ → Bool) (cs : List ℕ) → are_apart cs ≡ true → are_apart (filter q cs) ≡ true
apart_filter q [] h = refl
apart_filter q (c ∷ cs) h =
    let p = and_parts (list_all (is_another c) cs) (are_apart cs) h in
    elim (q c) as (λ v. are_apart (cond v (c ∷ filter q cs) (filter q cs)) ≡ true) [
      | true ↦ and_from (list_all (is_another c) (filter q cs)) (are_apart (filter q cs))
          (all_filter (is_another c) q cs p.0) (apart_filter q cs p.1)
      | false ↦ apart_filter q cs p.1
    ]

opens_apart : (E : History) → IsLegal E → are_apart (open_batches E) ≡ true
opens_apart (Opened O) l = refl
opens_apart (E ▸ Admit b body) l =
    apart_push b (open_batches E) (opens_apart E l.0) (new_batch b E l.1.fresh)
opens_apart (E ▸ Undo b) l = apart_filter (is_another b) (open_batches E) (opens_apart E l.0)
opens_apart (E ▸ Confirm b) l = apart_filter (is_another b) (open_batches E) (opens_apart E l.0)
opens_apart (E ▸ e) l = opens_apart E l.0

all_confirmed : (F : History) (bs : List ℕ) → open_batches F ≡ bs → are_apart bs ≡ true → IsLegal F
    → IsLegal (confirmed F bs) × (open_batches (confirmed F bs) ≡ [])
all_confirmed F [] e a l = (l, e)
all_confirmed F (b ∷ bs) e a l =
    let p = and_parts (list_all (is_another b) bs) (are_apart bs) a in
    all_confirmed (F ▸ Confirm b) bs (ap (filter (is_another b)) e
    ∙ (ap (λ v. cond (not v) (b ∷ filter (is_another b) bs) (filter (is_another b) bs))
    (eq-eqb b b refl) ∙ filter_keeps (is_another b) bs p.0)) p.1
    (l, ap (is_open b) e ∙ or_left (b == b) (is_open b bs) (eq-eqb b b refl))

points_confirmed : (F : History) (bs : List ℕ) → points (confirmed F bs) ≡ points F
points_confirmed F [] = refl
points_confirmed F (b ∷ bs) = points_confirmed (F ▸ Confirm b) bs

live_confirmed : (F : History) (bs : List ℕ) → live_flushes (confirmed F bs) ≡ live_flushes F
live_confirmed F [] = refl
live_confirmed F (b ∷ bs) = live_confirmed (F ▸ Confirm b) bs

held_confirmed : (F : History) (bs : List ℕ) → held_senders (confirmed F bs) ≡ held_senders F
held_confirmed F [] = refl
held_confirmed F (b ∷ bs) = held_confirmed (F ▸ Confirm b) bs

moved_confirmed : (F : History) (bs : List ℕ) (qs : List Accepted)
    → moved (confirmed F bs) qs ≡ moved F qs
moved_confirmed F [] qs = refl
moved_confirmed F (b ∷ bs) qs = moved_confirmed (F ▸ Confirm b) bs qs

news_confirmed : (F : History) (bs : List ℕ) → news (confirmed F bs) ≡ news F
news_confirmed F [] = refl
news_confirmed F (b ∷ bs) = news_confirmed (F ▸ Confirm b) bs

then_confirmed : (E G : History) (bs : List ℕ) → E then confirmed G bs ≡ confirmed (E then G) bs
then_confirmed E G [] = refl
then_confirmed E G (b ∷ bs) = then_confirmed E (G ▸ Confirm b) bs

open_alone : (E G : History) → open_batches E ≡ [] → open_batches (E then G) ≡ open_batches G
open_alone E (Opened O) e = e
open_alone E (G ▸ f) e = ap (open_after f) (open_alone E G e)

pub survived_law : (has : ℕ → Bool) (E G : History) → IsCalm E → IsLegal (E then G)
    → UndoesNone has G → IsLegal (E then survived has G) × IsCalm (E then survived has G)
survived_law has E G c l u = (
  subst (λ (H : History). IsLegal H) (sym same) done.0,
  record {
    batches = ap open_batches same ∙ done.1;
    live =
        ap live_flushes same ∙ (live_confirmed (E then kept has G) (open_batches (kept has G))
        ∙ none_live has E G c.live);
  },
)
  where
    same : E then survived has G ≡ confirmed (E then kept has G) (open_batches (kept has G))
    same = then_confirmed E (kept has G) (open_batches (kept has G))

    legal : IsLegal (E then kept has G)
    legal = (keeps has E G c l u).0

    alone : open_batches (E then kept has G) ≡ open_batches (kept has G)
    alone = open_alone E (kept has G) c.batches

    done : IsLegal (confirmed (E then kept has G) (open_batches (kept has G)))
        × (open_batches (confirmed (E then kept has G) (open_batches (kept has G))) ≡ [])
    done = all_confirmed (E then kept has G) (open_batches (kept has G)) alone
        (ap are_apart (sym alone) ∙ opens_apart (E then kept has G) legal) legal

-- a life

then_then : (E P Q : History) → E then (P then Q) ≡ (E then P) then Q
then_then E P (Opened O) = refl
then_then E P (Q ▸ e) = ap (λ H. H ▸ e) (then_then E P Q)

rounds_last : (E : History) (Hs : List History) (G : History) → AreRounds E Hs
    → IsLegal (lived E Hs then G) → IsCalm (lived E Hs then G) → AreRounds E (Hs ++ G ∷ [])
rounds_last E [] G r l c = (l, c, tt)
rounds_last E (H ∷ Hs) G r l c = (r.0, r.1, rounds_last (Opened (close (E then H))) Hs G r.2 l c)

lived_last : (E : History) (Hs : List History) (G : History)
    → lived E (Hs ++ G ∷ []) ≡ Opened (close (lived E Hs then G))
lived_last E [] G = refl
lived_last E (H ∷ Hs) G = lived_last (Opened (close (E then H))) Hs G

unfolded_last : (qs : List Accepted) (Hs : List History) (G : History)
    → unfolded qs (Hs ++ G ∷ []) ≡ moved G (unfolded qs Hs) ++ news G
unfolded_last qs [] G = refl
unfolded_last qs (H ∷ Hs) G = unfolded_last (moved H qs ++ news H) Hs G

moved_kept : (has : ℕ → Bool) (P Q : History) (qs : List Accepted)
    → moved (P then kept has Q) qs ≡ moved P qs
moved_kept has P (Opened O) qs = refl
moved_kept has P (Q ▸ Admit b body) qs =
    elim (has b) as (λ v. moved (P then cond v (kept has Q ▸ Admit b body) (kept has Q)) qs
    ≡ moved P qs) [ true ↦ moved_kept has P Q qs | false ↦ moved_kept has P Q qs ]
moved_kept has P (Q ▸ Confirm b) qs =
    elim (has b) as (λ v. moved (P then cond v (kept has Q ▸ Confirm b) (kept has Q)) qs
    ≡ moved P qs) [ true ↦ moved_kept has P Q qs | false ↦ moved_kept has P Q qs ]
moved_kept has P (Q ▸ Undo b) qs = moved_kept has P Q qs
moved_kept has P (Q ▸ Quarantine s) qs = moved_kept has P Q qs
moved_kept has P (Q ▸ Lift s) qs = moved_kept has P Q qs
moved_kept has P (Q ▸ e) qs = moved_kept has P Q qs

news_kept : (has : ℕ → Bool) (P Q : History)
    → news (P then kept has Q) ≡ news P ++ news (kept has Q)
news_kept has P (Opened O) = sym (append-nil (news P))
news_kept has P (Q ▸ Admit b body) =
    elim (has b) as (λ v. news (P then cond v (kept has Q ▸ Admit b body) (kept has Q))
    ≡ news P ++ news (cond v (kept has Q ▸ Admit b body) (kept has Q))) [
      | true ↦ ap (λ us. us ++ map (admitted b body.sender) body.points) (news_kept has P Q)
          ∙ append_assoc (news P) (news (kept has Q)) (map (admitted b body.sender) body.points)
      | false ↦ news_kept has P Q
    ]
news_kept has P (Q ▸ Confirm b) = elim (has b)
    as (λ v. news (P then cond v (kept has Q ▸ Confirm b) (kept has Q))
    ≡ news P ++ news (cond v (kept has Q ▸ Confirm b) (kept has Q)))
    [ true ↦ news_kept has P Q | false ↦ news_kept has P Q ]
news_kept has P (Q ▸ Undo b) = news_kept has P Q
news_kept has P (Q ▸ Quarantine s) = news_kept has P Q
news_kept has P (Q ▸ Lift s) = news_kept has P Q
news_kept has P (Q ▸ e) = news_kept has P Q

abbrev numbered : ℕ → Batch → Numbered
numbered b body = record { number = b; body = body }

points_last : (ns : List Numbered) (n : Numbered)
    → all_points (ns ++ n ∷ []) ≡ all_points ns ++ bare_points n.body
points_last [] n = append-nil (bare_points n.body)
points_last (m ∷ ns) n = ap (λ us. bare_points m.body ++ us) (points_last ns n)
    ∙ sym (append_assoc (bare_points m.body) (all_points ns) (bare_points n.body))

bare_posts : (has : ℕ → Bool) (G : History)
    → map bare (news (kept has G)) ≡ all_points (posts_in has G)
bare_posts has (Opened O) = refl
bare_posts has (G ▸ Admit b body) =
    elim (has b) as (λ v. map bare (news (cond v (kept has G ▸ Admit b body) (kept has G)))
    ≡ all_points (cond v (posts_in has G ++ numbered b body ∷ []) (posts_in has G))) [
      | true ↦ map-append bare (news (kept has G)) (map (admitted b body.sender) body.points)
          ∙ (ap (λ us. us ++ map bare (map (admitted b body.sender) body.points)) (bare_posts has G)
          ∙ (ap (λ us. all_points (posts_in has G) ++ us) (bare_admitted b body.sender body.points)
          ∙ sym (points_last (posts_in has G) (numbered b body))))
      | false ↦ bare_posts has G
    ]
bare_posts has (G ▸ Confirm b) = elim (has b)
    as (λ v. map bare (news (cond v (kept has G ▸ Confirm b) (kept has G)))
    ≡ all_points (posts_in has G)) [ true ↦ bare_posts has G | false ↦ bare_posts has G ]
bare_posts has (G ▸ Undo b) = bare_posts has G
bare_posts has (G ▸ Quarantine s) = bare_posts has G
bare_posts has (G ▸ Lift s) = bare_posts has G
bare_posts has (G ▸ e) = bare_posts has G

homes_append : (us vs : List Accepted) → homes (us ++ vs) ≡ homes us ++ homes vs
homes_append us vs = ap (map bare) (filter-append (stands is_home) us vs)
    ∙ map-append bare (filter (stands is_home) us) (filter (stands is_home) vs)

pub survives_law : (has : ℕ → Bool) (Hs : List History) (P Q : History) → AreRounds Start Hs
    → IsCalm (lived Start Hs then P) → IsLegal ((lived Start Hs then P) then Q) → UndoesNone has Q
    → Survives has Hs P Q
survives_law has Hs P Q r c l u = record {
  rounds = rounds_last Start Hs (P then survived has Q) r
      (subst (λ (H : History). IsLegal H) (sym same) done.0)
      (record {
        batches = ap open_batches same ∙ done.1.batches;
        live =
            ap live_flushes same ∙ done.1.live;
      });
  sent = ap (filter is_not_home) whole
      ∙ (filter-append is_not_home (moved P qs ++ news P) (news (kept has Q))
      ∙ (ap (λ us. filter is_not_home (moved P qs ++ news P) ++ us)
      (filter_none is_not_home (news (kept has Q))
      (all_weaker (λ a. is_home a.place) (λ a. not (not (is_home a.place)))
      (λ a n. ap (λ v. not (not v)) n) (news (kept has Q))
      (news_home (kept has Q) (kept_nothing has Q))))
      ∙ (append-nil (filter is_not_home (moved P qs ++ news P))
      ∙ sym (ap (filter is_not_home) (unfolded_last [] Hs P)))));
  pending = ap homes whole
      ∙ (homes_append (moved P qs ++ news P) (news (kept has Q))
      ∙ (ap (λ us. homes (moved P qs ++ news P) ++ us)
      (ap (map bare) (filter_keeps (stands is_home) (news (kept has Q))
      (news_home (kept has Q) (kept_nothing has Q))) ∙ bare_posts has Q)
      ∙ ap (λ us. homes us ++ all_points (posts_in has Q)) (sym (unfolded_last [] Hs P))));
  held = ap held_senders (lived_last Start Hs (P then survived has Q))
      ∙ (ap held_senders same
      ∙ (ap held_senders
      (then_confirmed (lived Start Hs then P) (kept has Q) (open_batches (kept has Q)))
      ∙ (held_confirmed ((lived Start Hs then P) then kept has Q) (open_batches (kept has Q))
      ∙ kept_held has (lived Start Hs then P) Q)));
}
  where
    qs : List Accepted
    qs = unfolded [] Hs

    done : IsLegal ((lived Start Hs then P) then survived has Q)
        × IsCalm ((lived Start Hs then P) then survived has Q)
    done = survived_law has (lived Start Hs then P) Q c l u

    same : lived Start Hs then (P then survived has Q) ≡ (lived Start Hs then P) then survived has Q
    same = then_then (lived Start Hs) P (survived has Q)

    stays : moved (P then survived has Q) qs ≡ moved P qs
    stays = ap (λ H. moved H qs) (then_confirmed P (kept has Q) (open_batches (kept has Q)))
        ∙ (moved_confirmed (P then kept has Q) (open_batches (kept has Q)) qs
        ∙ moved_kept has P Q qs)

    comes : news (P then survived has Q) ≡ news P ++ news (kept has Q)
    comes = ap news (then_confirmed P (kept has Q) (open_batches (kept has Q)))
        ∙ (news_confirmed (P then kept has Q) (open_batches (kept has Q)) ∙ news_kept has P Q)

    whole : unfolded [] (Hs ++ (P then survived has Q) ∷ [])
        ≡ (moved P qs ++ news P) ++ news (kept has Q)
    whole = unfolded_last [] Hs (P then survived has Q)
        ∙ (ap (λ us. us ++ news (P then survived has Q)) stays
        ∙ (ap (λ us. moved P qs ++ us) comes
        ∙ sym (append_assoc (moved P qs) (news P) (news (kept has Q)))))
