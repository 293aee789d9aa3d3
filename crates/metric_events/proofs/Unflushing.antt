-- A history without its flushes: what was in flight or landed is pending still, and nothing else
-- differs.
use Rattle.std.proofs.Common.{◌≡◌, ℕ, ◌==◌, ◌≤◌, Bool, true, false, cond, not, ◌&&◌, ◌||◌, List, []}
use Rattle.std.proofs.Common.{◌∷◌, ◌++◌, map, max, length, refl, ap, sym, ◌∙◌, arith}
use Rattle.std.specs.List.{list_any, list_all, filter}
use Rattle.std.proofs.lemmas.Bool.{or_left, or_right}
use Rattle.std.proofs.lemmas.List.{append-nil, map-append}
use Rattle.std.proofs.lemmas.List.Elements.{filter-append}
use Rattle.series_id.specs.Identity.{Identity}
use Rattle.metric_events.specs.DataPoint.{DataPoint}
use Rattle.metric_events.specs.Rows.{add_rows, fits}
use Rattle.metric_events.specs.History.{History, Opened, ◌▸◌, ◌then◌, entries, IsNewBatch}
use Rattle.metric_events.specs.Points.{points, is_home, is_among, is_in_flight, at, taken, landed}
use Rattle.metric_events.specs.Points.{admitted, is_of_other_batch}
use Rattle.metric_events.specs.Running.{open_after, open_batches, live_flushes, held_after}
use Rattle.metric_events.specs.Running.{held_senders}
use Rattle.metric_events.specs.Series.{is_of, owner, frontier, sum_of}
use Rattle.metric_events.specs.Legal.{IsLegal, HasRoom, MayAdmit, MayUndo, MayQuarantine, is_open}
use Rattle.metric_events.specs.Legal.{is_held, is_over, is_too_large}
use Rattle.metric_events.specs.Recovery.{bare, is_not_home, not_pending, FlushesNothing}
use Rattle.metric_events.specs.Congruence.{IsCalm, Suits, AllSuit}
use Rattle.metric_events.specs.Recall.{moved, news}
use Rattle.metric_events.specs.Unflushed.{unflushed, KnowAlike, IsUnflushed}
use Rattle.metric_events.specs.declared.accepted.Accepted.{Accepted}
use Rattle.metric_events.specs.declared.batch.Batch.{Batch}
use Rattle.metric_events.specs.declared.place.Place.{Place}
use Rattle.metric_events.specs.declared.place.Place.TheVariants.{Home, InFlight, Acknowledged}
use Rattle.metric_events.specs.declared.place.Place.TheVariants.{Dropped}
use Rattle.metric_events.specs.declared.event.Event.TheVariants.{Admit, Undo, Confirm, Take, Settle}
use Rattle.metric_events.specs.declared.event.Event.TheVariants.{Drop, GiveBack, Quarantine, Lift}
use Rattle.metric_events.proofs.Lists.{all_append, all_weaker, filter_none, filter-map}
use Rattle.metric_events.proofs.Striking.{legal_before}
use Rattle.metric_events.proofs.Held.{held_once}
use Rattle.metric_events.proofs.Invariants.{new_points}
use Rattle.metric_events.proofs.Owners.{one_owner}
use Rattle.metric_events.proofs.Counts.{count_le}
use Rattle.metric_events.proofs.Bare.{bare_owner, bare_frontier, bare_sum, owner_append}
use Rattle.metric_events.proofs.Bare.{frontier_append, sum_append}
use Rattle.metric_events.proofs.Behind.{behind, undoes_own, open_own, only_behind, news_home}
use Rattle.metric_events.proofs.Behind.{live_then}
use Rattle.metric_events.proofs.Kept.{moved_owner, moved_frontier, moved_any}
use Rattle.metric_events.proofs.Recovering.{alike_known, clearer_known, turn_clearer, turn_order}
use Rattle.metric_events.proofs.Congruence.{held_next, no_other_on, once_le}
use Rattle.metric_events.proofs.Priming.{moved_sum}

-- the same points, wherever they are

pub home_taken : (f : ℕ) (series : List Identity) (a : Accepted)
    → at Home (taken f series a) ≡ at Home a
home_taken f series a = elim (is_home a.place && is_among a.point.series series)
    as (λ v. at Home (cond v (at (InFlight f) a) a) ≡ at Home a) [ true ↦ refl | false ↦ refl ]

pub home_landed : (f : ℕ) (q : Place) (a : Accepted) → at Home (landed f q a) ≡ at Home a
home_landed f q a = elim (is_in_flight f a.place) as (λ v. at Home (cond v (at q a) a) ≡ at Home a)
    [ true ↦ refl | false ↦ refl ]

home_maps : (g : Accepted → Accepted) → ((a : Accepted) → at Home (g a) ≡ at Home a)
    → (qs : List Accepted) → map (at Home) (map g qs) ≡ map (at Home) qs
home_maps g e [] = refl
home_maps g e (a ∷ qs) =
    ap (λ b. b ∷ map (at Home) (map g qs)) (e a) ∙ ap (λ us. at Home a ∷ us) (home_maps g e qs)

home_news : (G : History) → map (at Home) (news (unflushed G)) ≡ map (at Home) (news G)
home_news (Opened O) = refl
home_news (G ▸ Admit b body) =
    map-append (at Home) (news (unflushed G)) (map (admitted b body.sender) body.points)
    ∙ (ap (λ us. us ++ map (at Home) (map (admitted b body.sender) body.points)) (home_news G)
    ∙ sym (map-append (at Home) (news G) (map (admitted b body.sender) body.points)))
home_news (G ▸ Undo b) =
    sym (filter-map (is_of_other_batch b) (at Home) (λ a. refl) (news (unflushed G)))
    ∙ (ap (filter (is_of_other_batch b)) (home_news G)
    ∙ filter-map (is_of_other_batch b) (at Home) (λ a. refl) (news G))
home_news (G ▸ Take f series) =
    home_news G ∙ sym (home_maps (taken f series) (home_taken f series) (news G))
home_news (G ▸ Settle f) =
    home_news G ∙ sym (home_maps (landed f Acknowledged) (home_landed f Acknowledged) (news G))
home_news (G ▸ Drop f) =
    home_news G ∙ sym (home_maps (landed f Dropped) (home_landed f Dropped) (news G))
home_news (G ▸ GiveBack f) =
    home_news G ∙ sym (home_maps (landed f Home) (home_landed f Home) (news G))
home_news (G ▸ e) = home_news G

bare_home : (qs : List Accepted) → map bare (map (at Home) qs) ≡ map bare qs
bare_home [] = refl
bare_home (a ∷ qs) = ap (λ us. bare a ∷ us) (bare_home qs)

bare_news : (G : History) → map bare (news (unflushed G)) ≡ map bare (news G)
bare_news G =
    sym (bare_home (news (unflushed G))) ∙ (ap (map bare) (home_news G) ∙ bare_home (news G))

owner_news : (x : Identity) (G : History) → owner x (news (unflushed G)) ≡ owner x (news G)
owner_news x G =
    sym (bare_owner x (news (unflushed G))) ∙ (ap (owner x) (bare_news G) ∙ bare_owner x (news G))

frontier_news : (x : Identity) (G : History) → frontier x (news (unflushed G)) ≡ frontier x (news G)
frontier_news x G = sym (bare_frontier x (news (unflushed G)))
    ∙ (ap (frontier x) (bare_news G) ∙ bare_frontier x (news G))

sum_news : (x : Identity) (G : History) → sum_of x (news (unflushed G)) ≡ sum_of x (news G)
sum_news x G =
    sym (bare_sum x (news (unflushed G))) ∙ (ap (sum_of x) (bare_news G) ∙ bare_sum x (news G))

-- no flush is left

pub flushes_nothing : (G : History) → FlushesNothing (unflushed G)
flushes_nothing (Opened O) = tt
flushes_nothing (G ▸ Admit b body) = flushes_nothing G
flushes_nothing (G ▸ Undo b) = flushes_nothing G
flushes_nothing (G ▸ Confirm b) = flushes_nothing G
flushes_nothing (G ▸ Quarantine s) = flushes_nothing G
flushes_nothing (G ▸ Lift s) = flushes_nothing G
flushes_nothing (G ▸ e) = flushes_nothing G

none_live : (F G : History) → live_flushes F ≡ [] → live_flushes (F then unflushed G) ≡ []
none_live F G e = live_then F (unflushed G) (flushes_nothing G) ∙ e

open_same : (E F G : History) → open_batches F ≡ open_batches E
    → open_batches (F then unflushed G) ≡ open_batches (E then G)
open_same E F (Opened O) e = e
open_same E F (G ▸ Admit b body) e = ap (open_after (Admit b body)) (open_same E F G e)
open_same E F (G ▸ Undo b) e = ap (open_after (Undo b)) (open_same E F G e)
open_same E F (G ▸ Confirm b) e = ap (open_after (Confirm b)) (open_same E F G e)
open_same E F (G ▸ Take f series) e = open_same E F G e
open_same E F (G ▸ Settle f) e = open_same E F G e
open_same E F (G ▸ Drop f) e = open_same E F G e
open_same E F (G ▸ GiveBack f) e = open_same E F G e
open_same E F (G ▸ Quarantine s) e = open_same E F G e
open_same E F (G ▸ Lift s) e = open_same E F G e

held_same : (E F G : History) → ((s : List ℕ)
    → is_held s (held_senders F) ≡ is_held s (held_senders E)) → (s : List ℕ)
    → is_held s (held_senders (F then unflushed G)) ≡ is_held s (held_senders (E then G))
held_same E F (Opened O) h s = h s
held_same E F (G ▸ Quarantine t) h s =
    held_next (Quarantine t) (held_senders (E then G)) (held_senders (F then unflushed G))
    (held_same E F G h) s
held_same E F (G ▸ Lift t) h s = held_next (Lift t) (held_senders (E then G))
    (held_senders (F then unflushed G)) (held_same E F G h) s
held_same E F (G ▸ Admit b body) h s = held_same E F G h s
held_same E F (G ▸ Undo b) h s = held_same E F G h s
held_same E F (G ▸ Confirm b) h s = held_same E F G h s
held_same E F (G ▸ e) h s = held_same E F G h s

-- what is known

record Both (E F G : History) : Type 0 where
  alike : KnowAlike E F
  calm : IsCalm E
  calm_too : IsCalm F
  legal : IsLegal (E then G)
  legal_too : IsLegal (F then unflushed G)
  first : IsLegal E
  first_too : IsLegal F

whole : (E F G : History) → Both E F G → points (E then G) ≡ moved G (points E) ++ news G
whole E F G b = behind E G (undoes_own E G b.calm.batches b.legal)

whole_too : (E F G : History) → Both E F G
    → points (F then unflushed G) ≡ points F ++ news (unflushed G)
whole_too E F G b = only_behind F (unflushed G) b.calm_too.batches (flushes_nothing G) b.legal_too

know_on : (E F G : History) → Both E F G → KnowAlike (E then G) (F then unflushed G)
know_on E F G b = record {
  owners = λ x.
      ap (owner x) (whole_too E F G b)
      ∙ (owner_append x (points F) (news (unflushed G))
      ∙ (ap (λ v. cond v (owner x (points F)) (owner x (news (unflushed G))))
      (known x ∙ sym (moved_any x G (points E)))
      ∙ (ap (λ s. cond (list_any (is_of x) (moved G (points E))) s (owner x (news (unflushed G))))
      (b.alike.owners x ∙ sym (moved_owner x G (points E)))
      ∙ (ap (λ s. cond (list_any (is_of x) (moved G (points E))) (owner x (moved G (points E))) s)
      (owner_news x G)
      ∙ sym (ap (owner x) (whole E F G b) ∙ owner_append x (moved G (points E)) (news G))))));
  frontiers = λ x.
      ap (frontier x) (whole_too E F G b)
      ∙ (frontier_append x (points F) (news (unflushed G))
      ∙ (ap (λ n. max n (frontier x (news (unflushed G))))
      (b.alike.frontiers x ∙ sym (moved_frontier x G (points E)))
      ∙ (ap (max (frontier x (moved G (points E)))) (frontier_news x G)
      ∙ sym (ap (frontier x) (whole E F G b) ∙ frontier_append x (moved G (points E)) (news G)))));
  held = held_same E F G b.alike.held;
}
  where
    known : (x : Identity) → list_any (is_of x) (points F) ≡ list_any (is_of x) (points E)
    known x = alike_known E F b.first b.first_too x (b.alike.frontiers x)

-- one event

admit_on : (E F G : History) (b : ℕ) (body : Batch) → Both E F G → MayAdmit (E then G) b body
    → Suits (F then unflushed G) (Admit b body) → MayAdmit (F then unflushed G) b body
admit_on E F G b body g m s = record {
  fresh = s.0;
  some = m.some;
  made = m.made;
  free = k.held body.sender ∙ m.free;
  few_open = omega
      (arith, m.few_open, ap length (open_same E F G (g.calm_too.batches ∙ sym g.calm.batches)));
  room = s.1;
  in_order = sym (turn_order body.sender body.points (points (F then unflushed G)))
      ∙ turn_clearer (map (admitted 0 body.sender) body.points) (points (E then G))
      (points (F then unflushed G)) (clearer_known (points (E then G))
      (points (F then unflushed G)) (one_owner (F then unflushed G) g.legal_too) known
      k.owners k.frontiers)
      (turn_order body.sender body.points (points (E then G)) ∙ m.in_order);
  few_series = omega (
    arith,
    m.few_series,
    count_le (points ((F then unflushed G) ▸ Admit b body))
        (points ((E then G) ▸ Admit b body))
        (no_other_on (E then G) (F then unflushed G) b b body known),
  );
  small = s.2;
}
  where
    k : KnowAlike (E then G) (F then unflushed G)
    k = know_on E F G g

    known : (x : Identity)
        → list_any (is_of x) (points (F then unflushed G)) ≡ list_any (is_of x) (points (E then G))
    known x = alike_known (E then G) (F then unflushed G) g.legal g.legal_too x (k.frontiers x)

undo_on : (E F G : History) (b : ℕ) → Both E F G → MayUndo (E then G) b
    → MayUndo (F then unflushed G) b
undo_on E F G b g m = record {
  opened = there;
  home = ap (list_all test) (whole_too E F G g)
      ∙ all_append test (points F) (news (unflushed G))
      (all_weaker (is_of_other_batch b) test
      (λ a n. or_left (not (a.batch == b)) (is_home a.place) n) (points F)
      (new_points b F (open_own F (unflushed G) g.calm_too.batches g.legal_too b there)))
      (all_weaker (λ a. is_home a.place) test
      (λ a n. or_right (not (a.batch == b)) (is_home a.place) n) (news (unflushed G))
      (news_home (unflushed G) (flushes_nothing G)));
}
  where
    test : Accepted → Bool
    test a = not (a.batch == b) || is_home a.place

    there : is_open b (open_batches (F then unflushed G)) ≡ true
    there = ap (is_open b) (open_same E F G (g.calm_too.batches ∙ sym g.calm.batches)) ∙ m.opened

quarantine_on : (E F G : History) (s : List ℕ) → Both E F G → MayQuarantine (E then G) s
    → HasRoom (F then unflushed G) → MayQuarantine (F then unflushed G) s
quarantine_on E F G s g m r = record {
  free = k.held s ∙ m.free;
  few = omega (
    arith,
    m.few,
    once_le (held_senders (F then unflushed G)) (held_senders (E then G))
        (held_once (F then unflushed G) g.legal_too) (λ t i. sym (k.held t) ∙ i),
  );
  room = r;
}
  where
    k : KnowAlike (E then G) (F then unflushed G)
    k = know_on E F G g

-- all events

both : (E F G : History) → KnowAlike E F → IsCalm E → IsCalm F → IsLegal F → IsLegal (E then G)
    → IsLegal (F then unflushed G) → Both E F G
both E F G k c d j l m = record {
  alike = k;
  calm = c;
  calm_too = d;
  legal = l;
  legal_too =
      m;
  first = legal_before G E l;
  first_too = j;
}

legal_on : (E F G : History) → KnowAlike E F → IsCalm E → IsCalm F → IsLegal F → IsLegal (E then G)
    → AllSuit F (unflushed G) → IsLegal (F then unflushed G)
legal_on E F (Opened O) k c d j l s = j
legal_on E F (G ▸ Admit b body) k c d j l s =
    let first = legal_on E F G k c d j l.0 s.0 in
    (first, admit_on E F G b body (both E F G k c d j l.0 first) l.1 s.1)
legal_on E F (G ▸ Undo b) k c d j l s =
    let first = legal_on E F G k c d j l.0 s.0 in
    (first, undo_on E F G b (both E F G k c d j l.0 first) l.1)
legal_on E F (G ▸ Confirm b) k c d j l s = (
  legal_on E F G k c d j l.0 s.0,
  ap (is_open b) (open_same E F G (d.batches ∙ sym c.batches))
      ∙ l.1,
)
legal_on E F (G ▸ Quarantine t) k c d j l s =
    let first = legal_on E F G k c d j l.0 s.0 in
    (first, quarantine_on E F G t (both E F G k c d j l.0 first) l.1 s.1)
legal_on E F (G ▸ Lift t) k c d j l s =
    (legal_on E F G k c d j l.0 s.0, held_same E F G k.held t ∙ l.1)
legal_on E F (G ▸ Take f series) k c d j l s = legal_on E F G k c d j l.0 s
legal_on E F (G ▸ Settle f) k c d j l s = legal_on E F G k c d j l.0 s
legal_on E F (G ▸ Drop f) k c d j l s = legal_on E F G k c d j l.0 s
legal_on E F (G ▸ GiveBack f) k c d j l s = legal_on E F G k c d j l.0 s

pub unflushed_law : (E F G : History) → KnowAlike E F → IsCalm E → IsCalm F → IsLegal F
    → IsLegal (E then G) → AllSuit F (unflushed G) → IsUnflushed E F G
unflushed_law E F G k c d j l s = record {
  legal = g.legal_too;
  know = know_on E F G g;
  batches = open_same E F G (d.batches ∙ sym c.batches);
  live = none_live F G d.live;
  rest = ap (filter is_not_home) (whole_too E F G g)
      ∙ (filter-append is_not_home (points F) (news (unflushed G))
      ∙ (ap (λ us. not_pending F ++ us)
      (filter_none is_not_home (news (unflushed G))
      (all_weaker (λ a. is_home a.place) (λ a. not (not (is_home a.place)))
      (λ a n. ap (λ v. not (not v)) n) (news (unflushed G))
      (news_home (unflushed G) (flushes_nothing G))))
      ∙ append-nil (not_pending F)));
}
  where
    g : Both E F G
    g = both E F G k c d j l (legal_on E F G k c d j l s)

-- after the same history there is room, and no sum is greater

new_same : (b : ℕ) (E G : History) → IsNewBatch b (E then G) → IsNewBatch b (E then unflushed G)
new_same b E (Opened O) n = n
new_same b E (G ▸ Admit c body) n = (n.0, new_same b E G n.1)
new_same b E (G ▸ Undo c) n = new_same b E G n
new_same b E (G ▸ Confirm c) n = new_same b E G n
new_same b E (G ▸ Quarantine s) n = new_same b E G n
new_same b E (G ▸ Lift s) n = new_same b E G n
new_same b E (G ▸ e) n = new_same b E G n

fewer : (E G : History) → entries (E then unflushed G) ≤ entries (E then G)
fewer E (Opened O) = omega arith
fewer E (G ▸ Take f series) = omega (arith, fewer E G)
fewer E (G ▸ Settle f) = omega (arith, fewer E G)
fewer E (G ▸ Drop f) = omega (arith, fewer E G)
fewer E (G ▸ GiveBack f) = omega (arith, fewer E G)
fewer E (G ▸ Admit c body) = omega (arith, fewer E G)
fewer E (G ▸ Undo c) = omega (arith, fewer E G)
fewer E (G ▸ Confirm c) = omega (arith, fewer E G)
fewer E (G ▸ Quarantine s) = omega (arith, fewer E G)
fewer E (G ▸ Lift s) = omega (arith, fewer E G)

held_still : (E G : History) → held_senders (E then unflushed G) ≡ held_senders (E then G)
held_still E (Opened O) = refl
held_still E (G ▸ Quarantine s) = ap (held_after (Quarantine s)) (held_still E G)
held_still E (G ▸ Lift s) = ap (held_after (Lift s)) (held_still E G)
held_still E (G ▸ Admit c body) = held_still E G
held_still E (G ▸ Undo c) = held_still E G
held_still E (G ▸ Confirm c) = held_still E G
held_still E (G ▸ e) = held_still E G

room_same : (E G : History) → live_flushes E ≡ [] → HasRoom (E then G)
    → HasRoom (E then unflushed G)
room_same E G e r = omega (
  arith,
  r,
  fewer E G,
  ap length (open_same E E G refl),
  ap length
      (none_live E G e),
  ap length (held_still E G),
)

large_same : (qs rs : List Accepted) (ps : List DataPoint)
    → ((x : Identity) → sum_of x rs ≡ sum_of x qs) → is_too_large rs ps ≡ is_too_large qs ps
large_same qs rs [] e = refl
large_same qs rs (p ∷ ps) e = ap (λ r. not (fits p.series.kind r) || is_too_large rs ps)
    (e p.series) ∙ ap (λ v. is_over qs p || v) (large_same qs rs ps e)

sum_same : (E G : History) → Both E E G → (x : Identity)
    → sum_of x (points (E then unflushed G)) ≡ sum_of x (points (E then G))
sum_same E G g x =
    ap (sum_of x) (whole_too E E G g)
    ∙ (sum_append x (points E) (news (unflushed G))
    ∙ (ap (λ r. add_rows r (sum_of x (news (unflushed G)))) (sym (moved_sum x G (points E)))
    ∙ (ap (add_rows (sum_of x (moved G (points E)))) (sum_news x G)
    ∙ sym (ap (sum_of x) (whole E E G g) ∙ sum_append x (moved G (points E)) (news G)))))

sum_more : (E G : History) (b : ℕ) (body : Batch) → Both E E G → (x : Identity)
    → sum_of x (points ((E then unflushed G) ▸ Admit b body))
    ≡ sum_of x (points ((E then G) ▸ Admit b body))
sum_more E G b body g x =
    sum_append x (points (E then unflushed G)) (map (admitted b body.sender) body.points)
    ∙ (ap (λ r. add_rows r (sum_of x (map (admitted b body.sender) body.points))) (sum_same E G g x)
    ∙ sym (sum_append x (points (E then G)) (map (admitted b body.sender) body.points)))

know_itself : (E : History) → KnowAlike E E
know_itself E = record { owners = λ x. refl; frontiers = λ x. refl; held = λ s. refl }

same_legal : (E G : History) → IsCalm E → IsLegal E → IsLegal (E then G)
    → IsLegal (E then unflushed G) × AllSuit E (unflushed G)
same_legal E (Opened O) c i l = (i, tt)
same_legal E (G ▸ Admit b body) c i l =
    let first = same_legal E G c i l.0 in
    let g = both E E G (know_itself E) c c i l.0 first.0 in
    let small = large_same (points ((E then G) ▸ Admit b body))
    (points ((E then unflushed G) ▸ Admit b body)) body.points (sum_more E G b body g)
    ∙ l.1.small in
    let suits : Suits (E then unflushed G) (Admit b body) =
    (new_same b E G l.1.fresh, room_same E G c.live l.1.room, small) in
    ((first.0, admit_on E E G b body g l.1 suits), (first.1, suits))
same_legal E (G ▸ Undo b) c i l =
    let first = same_legal E G c i l.0 in
    ((first.0, undo_on E E G b (both E E G (know_itself E) c c i l.0 first.0) l.1), (first.1, tt))
same_legal E (G ▸ Confirm b) c i l =
    let first = same_legal E G c i l.0 in
    ((first.0, ap (is_open b) (open_same E E G refl) ∙ l.1), (first.1, tt))
same_legal E (G ▸ Quarantine s) c i l =
    let first = same_legal E G c i l.0 in
    let room = room_same E G c.live l.1.room in (
      (first.0, quarantine_on E E G s (both E E G (know_itself E) c c i l.0 first.0) l.1 room),
      (first.1, room),
    )
same_legal E (G ▸ Lift s) c i l =
    let first = same_legal E G c i l.0 in
    ((first.0, held_same E E G (λ t. refl) s ∙ l.1), (first.1, tt))
same_legal E (G ▸ Take f series) c i l = same_legal E G c i l.0
same_legal E (G ▸ Settle f) c i l = same_legal E G c i l.0
same_legal E (G ▸ Drop f) c i l = same_legal E G c i l.0
same_legal E (G ▸ GiveBack f) c i l = same_legal E G c i l.0

pub cut_off_law : (E G : History) → IsCalm E → IsLegal (E then G) → IsUnflushed E E G
cut_off_law E G c l =
    let i = legal_before G E l in
    unflushed_law E E G (know_itself E) c c i l (same_legal E G c i l).1
