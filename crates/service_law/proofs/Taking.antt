-- The machine's books beside a history: a checkpoint's flushes.
use Rattle.std.proofs.Common.{◌≡◌, ℕ, ◌==◌, Bool, true, false, cond, not, ◌&&◌, ◌||◌, ⊎_elim}
use Rattle.std.proofs.Common.{Option, None, List, [], ◌∷◌, ◌++◌, map, refl, ap, sym, ◌∙◌, subst}
use Rattle.std.proofs.Common.{append_assoc}
use Rattle.std.specs.List.{list_any, list_all, filter, AllByRecursion}
use Rattle.std.proofs.lemmas.Bool.{and_parts, and_from, both_ways, not-true, or_left, or_right}
use Rattle.std.proofs.lemmas.Bool.{or_from, or_parts, eq-eqb, ne_eqb}
use Rattle.std.proofs.lemmas.List.{append-nil}
use Rattle.std.proofs.lemmas.List.Elements.{filter-append}
use Rattle.std.proofs.lemmas.List.Folds.{list_any-append}
use Rattle.series_id.specs.Identity.{Identity, row_length}
use Rattle.series_id.specs.Order.{same_series}
use Rattle.series_id.proofs.Order.{same_series-exact}
use Rattle.metric_events.specs.DataPoint.{DataPoint}
use Rattle.metric_events.specs.Rows.{zeros}
use Rattle.metric_events.specs.History.{History, ◌▸◌, IsNewFlush}
use Rattle.metric_events.specs.Points.{points, is_among, is_home, taken}
use Rattle.metric_events.specs.Running.{held_senders, is_other_flight, live_flushes}
use Rattle.metric_events.specs.Series.{is_of, of_series, owner, frontier, row_sum}
use Rattle.metric_events.specs.Standing.{stands, sum_where}
use Rattle.metric_events.specs.Legal.{MayTake, is_held, is_live}
use Rattle.metric_events.specs.Recovery.{are_in_turn}
use Rattle.metric_events.specs.Congruence.{AreInterleaved}
use Rattle.metric_events.specs.declared.accepted.Accepted.{Accepted}
use Rattle.metric_events.specs.declared.flight.Flight.{Flight}
use Rattle.metric_events.specs.declared.place.Place.{Place}
use Rattle.metric_events.specs.declared.place.Place.TheVariants.{InFlight}
use Rattle.metric_events.specs.declared.event.Event.TheVariants.{Take}
use Rattle.metric_events.proofs.Lists.{all_always, all_both, all_filter, all_first, all_map}
use Rattle.metric_events.proofs.Lists.{any_append_right, filter-map, filter_all, filter_keeps}
use Rattle.metric_events.proofs.Lists.{filter_none, filter_where, map_same}
use Rattle.metric_events.proofs.Moves.{is_out_of}
use Rattle.metric_events.proofs.Fits.{taken_point, row_sum-map}
use Rattle.metric_events.proofs.Invariants.{new_flights, new_flush}
use Rattle.metric_events.proofs.Recovering.{turn_last}
use Rattle.metric_events.proofs.Turns.{keeps_taken}
use Rattle.metric_events.proofs.Interleaving.{any_interleaved, owner_interleaved}
use Rattle.metric_events.proofs.Interleaving.{frontier_interleaved}
use Rattle.service_law.specs.Machine.{Run, World, begun, book, free_points, group_of, held_points}
use Rattle.service_law.specs.Counted.{all_rules}
use Rattle.service_law.specs.Known.{Flies, Knows, MayTakeAll, TakesAll, are_live, flush_numbers}
use Rattle.service_law.specs.Known.{is_in_one, series_of_all, taking}
use Rattle.service_law.proofs.Same.{same_itself, same_both, parted, turn_bare}
use Rattle.service_law.proofs.Flushing.{all_left, any_kept, freed, frontier_kept, held_of}
use Rattle.service_law.proofs.Flushing.{nothing_pending, own_pending, owned, owner_kept}

-- what flushes leave as it was

any_all : (x : Identity) (ls : List Flight) (E : History)
    → list_any (is_of x) (points (taking E ls)) ≡ list_any (is_of x) (points E)
any_all x [] E = refl
any_all x (l ∷ ls) E = any_all x ls (E ▸ Take l.number l.series)
    ∙ any_kept (taken l.number l.series) (keeps_taken l.number l.series) x (points E)

owner_all : (x : Identity) (ls : List Flight) (E : History)
    → owner x (points (taking E ls)) ≡ owner x (points E)
owner_all x [] E = refl
owner_all x (l ∷ ls) E = owner_all x ls (E ▸ Take l.number l.series)
    ∙ owner_kept (taken l.number l.series) (keeps_taken l.number l.series) x (points E)

frontier_all : (x : Identity) (ls : List Flight) (E : History)
    → frontier x (points (taking E ls)) ≡ frontier x (points E)
frontier_all x [] E = refl
frontier_all x (l ∷ ls) E = frontier_all x ls (E ▸ Take l.number l.series)
    ∙ frontier_kept (taken l.number l.series) (keeps_taken l.number l.series) x (points E)

held_all : (ls : List Flight) (E : History) → held_senders (taking E ls) ≡ held_senders E
held_all [] E = refl
held_all (l ∷ ls) E = held_all ls (E ▸ Take l.number l.series)

live_all : (ls : List Flight) (E : History) → live_flushes (taking E ls) ≡ live_flushes E ++ ls
live_all [] E = sym (append-nil (live_flushes E))
live_all (l ∷ ls) E = live_all ls (E ▸ Take l.number l.series)
    ∙ append_assoc (live_flushes E) (l ∷ []) ls

-- the points of a series: no flush takes it, or one moves what is pending of it, and then none does

of_taken : (f : ℕ) (series : List Identity) (x : Identity) (qs : List Accepted)
    → of_series x (map (taken f series) qs) ≡ map (taken f series) (of_series x qs)
of_taken f series x qs = filter-map (is_of x) (taken f series)
    (λ a. ap (λ (p : DataPoint). same_series p.series x) (taken_point f series a)) qs

not_moved : (f : ℕ) (series : List Identity) (a : Accepted) → not (is_home a.place) ≡ true
    → taken f series a ≡ a
not_moved f series a n = rw (not-true (is_home a.place) n) refl

all_still : (x : Identity) (ls : List Flight) (E : History)
    → list_all (λ a. not (is_home a.place)) (of_series x (points E)) ≡ true
    → of_series x (points (taking E ls)) ≡ of_series x (points E)
all_still x [] E h = refl
all_still x (l ∷ ls) E h =
    all_still x ls (E ▸ Take l.number l.series)
    (ap (list_all (λ a. not (is_home a.place))) same ∙ h) ∙ same
  where
    same : of_series x (map (taken l.number l.series) (points E)) ≡ of_series x (points E)
    same = of_taken l.number l.series x (points E)
        ∙ map_same (λ a. not (is_home a.place)) (taken l.number l.series)
        (not_moved l.number l.series) (of_series x (points E)) h

all_away : (f : ℕ) (series : List Identity) (x : Identity) (us : List Accepted)
    → is_among x series ≡ true → list_all (is_of x) us ≡ true
    → list_all (λ a. not (is_home a.place)) (map (taken f series) us) ≡ true
all_away f series x us m o =
    all_map (is_of x) (λ a. not (is_home a.place)) (taken f series) moved us o
  where
    moved : (a : Accepted) → is_of x a ≡ true → not (is_home (taken f series a).place) ≡ true
    moved a e = by (is_home a.place) refl
      where
        among : is_among a.point.series series ≡ true
        among = subst (λ (y : Identity). is_among y series ≡ true)
            (sym (same_series-exact a.point.series x e)) m

        by : (v : Bool) → is_home a.place ≡ v → not (is_home (taken f series a).place) ≡ true
        by true h = rw (h, among) refl
        by false h = rw h (rw h refl)

later : (x : Identity) (l : Flight) (ls : List Flight) → is_among x l.series ≡ false
    → is_among x (series_of_all (l ∷ ls)) ≡ true → is_among x (series_of_all ls) ≡ true
later x l ls e h = let q : (false || is_among x (series_of_all ls)) ≡ true =
    sym (ap (λ v. v || is_among x (series_of_all ls)) e)
    ∙ (sym (list_any-append (same_series x) l.series (series_of_all ls)) ∙ h) in q

record IsTaken (x : Identity) (ls : List Flight) (E : History) : Type 0 where
  one : Flight
  numbered : is_in_one (flush_numbers ls) (InFlight one.number) ≡ true
  among : is_among x one.series ≡ true
  moved : of_series x (points (taking E ls))
      ≡ map (taken one.number one.series) (of_series x (points E))

is_taken : (x : Identity) (ls : List Flight) (E : History)
    → is_among x (series_of_all ls) ≡ true → IsTaken x ls E
is_taken x [] E h = absurd (let q : false ≡ true = h in cc q)
is_taken x (l ∷ ls) E h =
    both (is_among x l.series) refl (is_taken x ls (E ▸ Take l.number l.series))
  where
    both : (v : Bool) → is_among x l.series ≡ v
        → (is_among x (series_of_all ls) ≡ true → IsTaken x ls (E ▸ Take l.number l.series))
        → IsTaken x (l ∷ ls) E
    both true e r = record {
      one = l;
      numbered = or_left (l.number == l.number)
          (is_in_one (flush_numbers ls) (InFlight l.number)) (eq-eqb l.number l.number refl);
      among = e;
      moved = all_still x ls (E ▸ Take l.number l.series)
          (ap (list_all (λ a. not (is_home a.place))) (of_taken l.number l.series x (points E))
          ∙ all_away l.number l.series x (of_series x (points E)) e
          (filter_all (is_of x) (points E)))
          ∙ of_taken l.number l.series x (points E);
    }
    both false e r = let t = r (later x l ls e h) in record {
      one = t.one;
      numbered = or_right (t.one.number == l.number)
          (is_in_one (flush_numbers ls) (InFlight t.one.number)) t.numbered;
      among = t.among;
      moved = t.moved ∙ ap (map (taken t.one.number t.one.series))
          (all_left l.number l.series x (points E) e);
    }

is_left : (x : Identity) (ls : List Flight) (E : History)
    → is_among x (series_of_all ls) ≡ false
    → of_series x (points (taking E ls)) ≡ of_series x (points E)
is_left x [] E h = refl
is_left x (l ∷ ls) E h =
    let p = or_parts (is_among x l.series) (is_among x (series_of_all ls))
    (sym (list_any-append (same_series x) l.series (series_of_all ls)) ∙ h) in
    is_left x ls (E ▸ Take l.number l.series) p.1
    ∙ all_left l.number l.series x (points E) p.0

-- a series that one takes has no quarantined owner, if it has a point
freed_all : (x : Identity) (ls : List Flight) (E : History) → MayTakeAll E ls
    → is_among x (series_of_all ls) ≡ true
    → is_held (owner x (points E)) (held_senders E) ≡ true → list_any (is_of x) (points E) ≡ false
freed_all x [] E m h o = absurd (let q : false ≡ true = h in cc q)
freed_all x (l ∷ ls) E m h o =
    both (is_among x l.series) refl (freed_all x ls (E ▸ Take l.number l.series) m.1)
  where
    both : (v : Bool) → is_among x l.series ≡ v
        → (is_among x (series_of_all ls) ≡ true
        → is_held (owner x (map (taken l.number l.series) (points E))) (held_senders E) ≡ true
        → list_any (is_of x) (map (taken l.number l.series) (points E)) ≡ false)
        → list_any (is_of x) (points E) ≡ false
    both true e r = freed l.series (held_senders E) x (points E) m.0.free e o
    both false e r =
        sym (any_kept (taken l.number l.series) (keeps_taken l.number l.series) x (points E))
        ∙ r (later x l ls e h) (ap (λ s. is_held s (held_senders E))
        (owner_kept (taken l.number l.series) (keeps_taken l.number l.series) x (points E)) ∙ o)

-- their numbers are new, and no two are the same

earlier : (f : ℕ) (series : List Identity) (E : History) (ls : List Flight)
    → AllByRecursion (λ (l : Flight). IsNewFlush l.number (E ▸ Take f series)) ls
    → AllByRecursion (λ (l : Flight). IsNewFlush l.number E) ls
earlier f series E [] h = tt
earlier f series E (l ∷ ls) h = (h.0.1, earlier f series E ls h.1)

all_new : (ls : List Flight) (E : History) → MayTakeAll E ls
    → AllByRecursion (λ (l : Flight). IsNewFlush l.number E) ls
all_new [] E m = tt
all_new (l ∷ ls) E m = (
  m.0.fresh,
  earlier l.number l.series E ls (all_new ls (E ▸ Take l.number l.series) m.1),
)

others : (f : ℕ) (series : List Identity) (E : History) (ls : List Flight)
    → AllByRecursion (λ (l : Flight). IsNewFlush l.number (E ▸ Take f series)) ls
    → list_all (is_other_flight f) ls ≡ true
others f series E [] h = refl
others f series E (l ∷ ls) h = and_from (not (l.number == f)) (list_all (is_other_flight f) ls)
    (ap not (ne_eqb l.number f (λ e. h.0.0 (sym e)))) (others f series E ls h.1)

none_yet : (E : History) (ls : List Flight)
    → AllByRecursion (λ (l : Flight). IsNewFlush l.number E) ls
    → list_all (λ a. not (is_in_one (flush_numbers ls) a.place)) (points E) ≡ true
none_yet E [] h = all_always (λ a. not (is_in_one [] a.place)) (λ a. refl) (points E)
none_yet E (l ∷ ls) h =
    all_both (is_out_of l.number) (λ a. not (is_in_one (flush_numbers ls) a.place))
    (λ a. not (is_in_one (flush_numbers (l ∷ ls)) a.place)) (λ a p q. ap not (or_from _ _
    (not-true _ p) (not-true _ q))) (points E) (new_flights l.number E h.0) (none_yet E ls h.1)

-- so all of them are live

abbrev AreApart : List Flight → List Flight → Type 0
AreApart live [] = Unit {0}
AreApart live (l ∷ ls) =
    (list_all (is_other_flight l.number) live ≡ true)
    × (list_all (is_other_flight l.number) ls ≡ true) × AreApart live ls

fewer_apart : (live more ls : List Flight) → AreApart (live ++ more) ls → AreApart live ls
fewer_apart live more [] h = tt
fewer_apart live more (l ∷ ls) h =
    (all_first (is_other_flight l.number) live more h.0, h.1, fewer_apart live more ls h.2)

are_apart : (ls : List Flight) (E : History) → MayTakeAll E ls → AreApart (live_flushes E) ls
are_apart [] E m = tt
are_apart (l ∷ ls) E m = (
  new_flush l.number E m.0.fresh,
  others l.number l.series E ls (all_new ls (E ▸ Take l.number l.series) m.1),
  fewer_apart (live_flushes E) (l ∷ []) ls (are_apart ls (E ▸ Take l.number l.series) m.1),
)

are_live_all : (live ls : List Flight) → AreApart live ls
    → are_live (flush_numbers ls) (live ++ ls) ≡ true
are_live_all live [] h = refl
are_live_all live (l ∷ ls) h =
    and_from (is_live l.number (live ++ l ∷ ls))
    (are_live (flush_numbers ls) (filter (is_other_flight l.number) (live ++ l ∷ ls)))
    (any_append_right (λ k. k.number == l.number) live (l ∷ ls)
    (or_left (l.number == l.number) (is_live l.number ls) (eq-eqb l.number l.number refl)))
    (ap (are_live (flush_numbers ls)) without ∙ are_live_all live ls h.2)
  where
    without : filter (is_other_flight l.number) (live ++ l ∷ ls) ≡ live ++ ls
    without = filter-append (is_other_flight l.number) live (l ∷ ls)
        ∙ (ap (λ ks. ks ++ filter (is_other_flight l.number) (l ∷ ls))
        (filter_keeps (is_other_flight l.number) live h.0)
        ∙ ap (λ ks. live ++ ks)
        (ap (λ v. cond (not v) (l ∷ filter (is_other_flight l.number) ls)
        (filter (is_other_flight l.number) ls)) (eq-eqb l.number l.number refl)
        ∙ filter_keeps (is_other_flight l.number) ls h.1))

-- what is in flight then was pending

flown_rows : (n : ℕ) (t : Place → Bool) (f : ℕ) (series : List Identity) (x : Identity)
    (us : List Accepted) → t (InFlight f) ≡ true → is_among x series ≡ true
    → list_all (is_of x) us ≡ true → list_all (λ a. not (t a.place)) us ≡ true
    → row_sum n (filter (stands is_home) us)
    ≡ row_sum n (filter (stands t) (map (taken f series) us))
flown_rows n t f series x us i m o h =
    sym (ap (row_sum n) (filter_where (λ a. is_of x a && not (t a.place)) (stands t)
    (stands is_home) (taken f series) flown us
    (all_both (is_of x) (λ a. not (t a.place)) (λ a. is_of x a && not (t a.place))
    (λ a p q. and_from (is_of x a) (not (t a.place)) p q) us o h))
    ∙ row_sum-map n (taken f series) (taken_point f series) (filter (stands is_home) us))
  where
    flown : (a : Accepted) → (is_of x a && not (t a.place)) ≡ true
        → t (taken f series a).place ≡ is_home a.place
    flown a k = by (is_home a.place) refl
      where
        among : is_among a.point.series series ≡ true
        among = subst (λ (y : Identity). is_among y series ≡ true)
            (sym (same_series-exact a.point.series x
            (and_parts (is_of x a) (not (t a.place)) k).0)) m

        by : (v : Bool) → is_home a.place ≡ v → t (taken f series a).place ≡ is_home a.place
        by true e = rw (e, among) i
        by false e = rw e (not-true (t a.place) (and_parts (is_of x a) (not (t a.place)) k).1)

pub several_law : (E : History) (r : Run) (w : World) (ls : List Flight) → Knows E r
    → are_in_turn [] (book r) ≡ true → r.checkpoint ≡ None → MayTakeAll E ls
    → TakesAll E (series_of_all ls) → Knows (taking E ls) (begun all_rules w r None)
    × Flies (taking E ls) (flush_numbers ls) (begun all_rules w r None)
several_law E r w ls k t e m h = (
  record {
    any = λ x. any_interleaved (book r) after same x ∙ (k.any x ∙ sym (any_all x ls E));
    owners = λ x. owner_interleaved (book r) after same x ∙ (k.owners x ∙ sym (owner_all x ls E));
    frontiers = λ x. frontier_interleaved (book r) after same x
        ∙ (k.frontiers x ∙ sym (frontier_all x ls E));
    sums = λ x. ap (row_sum (row_length x.kind))
        (held_of (λ s. is_held s r.held) x (owner x (book r)) r.pending (own_pending r x t))
        ∙ homes x (is_among x (series_of_all ls)) refl (is_held (owner x (book r)) r.held) refl;
    held = λ s. k.held s ∙ ap (is_held s) (sym (held_all ls E));
  },
  record {
    live = ap (are_live (flush_numbers ls)) (live_all ls E)
        ∙ are_live_all (live_flushes E) ls (are_apart ls E m);
    sums = λ x. ap (row_sum (row_length x.kind))
        (held_of (λ s. not (is_held s r.held)) x (owner x (book r)) r.pending (own_pending r x t))
        ∙ flights x (is_among x (series_of_all ls)) refl (is_held (owner x (book r)) r.held) refl;
  },
)
  where
    fs : List ℕ
    fs = flush_numbers ls

    after : List Accepted
    after = r.known ++ (free_points r.held r.pending ++ held_points r.held r.pending)

    bare : book r ≡ r.known ++ r.pending
    bare = ap (λ (o : Option _). r.known ++ (group_of o ++ r.pending)) e

    same : AreInterleaved (book r) after
    same = subst (λ (us : List Accepted). AreInterleaved us after) (sym bare)
        (same_both (same_itself r.known)
        (parted (λ s. is_held s r.held) r.pending
        (turn_bare r.known r.pending
        (turn_last [] r.known r.pending (ap (are_in_turn []) (sym bare) ∙ t)))))

    chosen : (u : Bool → Bool) (x : Identity) (g : Bool) → is_held (owner x (book r)) r.held ≡ g
        → row_sum (row_length x.kind) (cond (u (is_held (owner x (book r)) r.held))
        (of_series x r.pending) [])
        ≡ row_sum (row_length x.kind) (cond (u g) (of_series x r.pending) [])
    chosen u x g o =
        ap (λ v. row_sum (row_length x.kind) (cond (u v) (of_series x r.pending) [])) o

    none : (x : Identity) → is_among x (series_of_all ls) ≡ true
        → is_held (owner x (book r)) r.held ≡ true
        → row_sum (row_length x.kind) (of_series x r.pending) ≡ zeros (row_length x.kind)
    none x a o = ap (row_sum (row_length x.kind)) (nothing_pending r x
        (k.any x ∙ freed_all x ls E m a (sym (owned E r k x) ∙ o)))

    nothing : (x : Identity) → is_among x (series_of_all ls) ≡ false
        → is_held (owner x (book r)) r.held ≡ false
        → sum_where is_home x (points E) ≡ zeros (row_length x.kind)
    nothing x a o = ⊎_elim (λ y. absurd (both_ways _ (sym (owned E r k x) ∙ o) y)) (λ z. z)
        (h.each x a)

    out : (x : Identity)
        → list_all (λ a. not (is_in_one fs a.place)) (of_series x (points E)) ≡ true
    out x = all_filter (λ a. not (is_in_one fs a.place)) (is_of x) (points E)
        (none_yet E ls (all_new ls E m))

    gone : (x : Identity) → IsTaken x ls E
        → zeros (row_length x.kind) ≡ sum_where is_home x (points (taking E ls))
    gone x i = sym (ap (λ us. row_sum (row_length x.kind) (filter (stands is_home) us)) i.moved
        ∙ ap (row_sum (row_length x.kind)) (filter_none (stands is_home)
        (map (taken i.one.number i.one.series) (of_series x (points E)))
        (all_away i.one.number i.one.series x (of_series x (points E)) i.among
        (filter_all (is_of x) (points E)))))

    stays : (x : Identity) → is_among x (series_of_all ls) ≡ false
        → sum_where is_home x (points E) ≡ sum_where is_home x (points (taking E ls))
    stays x a = sym (ap (λ us. row_sum (row_length x.kind) (filter (stands is_home) us))
        (is_left x ls E a))

    homes : (x : Identity) (v : Bool) → is_among x (series_of_all ls) ≡ v → (g : Bool)
        → is_held (owner x (book r)) r.held ≡ g
        → row_sum (row_length x.kind) (cond (is_held (owner x (book r)) r.held)
        (of_series x r.pending) []) ≡ sum_where is_home x (points (taking E ls))
    homes x true a false o = chosen (λ v. v) x false o ∙ gone x (is_taken x ls E a)
    homes x true a true o =
        chosen (λ v. v) x true o ∙ (none x a o ∙ gone x (is_taken x ls E a))
    homes x false a true o = chosen (λ v. v) x true o ∙ (k.sums x ∙ stays x a)
    homes x false a false o = chosen (λ v. v) x false o ∙ (sym (nothing x a o) ∙ stays x a)

    flown : (x : Identity) → IsTaken x ls E
        → sum_where is_home x (points E) ≡ sum_where (is_in_one fs) x (points (taking E ls))
    flown x i = flown_rows (row_length x.kind) (is_in_one fs) i.one.number i.one.series x
        (of_series x (points E)) i.numbered i.among (filter_all (is_of x) (points E)) (out x)
        ∙ sym (ap (λ us. row_sum (row_length x.kind) (filter (stands (is_in_one fs)) us)) i.moved)

    unflown : (x : Identity) → is_among x (series_of_all ls) ≡ false
        → zeros (row_length x.kind) ≡ sum_where (is_in_one fs) x (points (taking E ls))
    unflown x a = sym (ap (λ us. row_sum (row_length x.kind) (filter (stands (is_in_one fs)) us))
        (is_left x ls E a)
        ∙ ap (row_sum (row_length x.kind))
        (filter_none (stands (is_in_one fs)) (of_series x (points E)) (out x)))

    flights : (x : Identity) (v : Bool) → is_among x (series_of_all ls) ≡ v → (g : Bool)
        → is_held (owner x (book r)) r.held ≡ g
        → row_sum (row_length x.kind) (cond (not (is_held (owner x (book r)) r.held))
        (of_series x r.pending) []) ≡ sum_where (is_in_one fs) x (points (taking E ls))
    flights x true a false o = chosen not x false o ∙ (k.sums x ∙ flown x (is_taken x ls E a))
    flights x true a true o = chosen not x true o
        ∙ (sym (none x a o) ∙ (k.sums x ∙ flown x (is_taken x ls E a)))
    flights x false a true o = chosen not x true o ∙ unflown x a
    flights x false a false o =
        chosen not x false o ∙ (k.sums x ∙ (nothing x a o ∙ unflown x a))

pub taken_law : (E : History) (r : Run) (w : World) (f : ℕ) (series : List Identity) → Knows E r
    → are_in_turn [] (book r) ≡ true → r.checkpoint ≡ None → MayTake E f series → TakesAll E series
    → Knows (E ▸ Take f series) (begun all_rules w r None)
    × Flies (E ▸ Take f series) (f ∷ []) (begun all_rules w r None)
taken_law E r w f series k t e m h =
    several_law E r w (record { number = f; series = series } ∷ []) k t e (m, tt)
    (subst (TakesAll E) (sym (append-nil series)) h)
