-- The machine's books beside a history: what a checkpoint took is in flight, until it is committed
-- or given back.
use Rattle.std.proofs.Common.{◌≡◌, ℕ, ◌==◌, Bool, true, false, not, Option, None, Some, List}
use Rattle.std.proofs.Common.{[], ◌∷◌, ◌++◌, map, drop, refl, ap, sym, ◌∙◌, append_assoc}
use Rattle.std.specs.List.{list_any, list_all, filter}
use Rattle.std.proofs.lemmas.Bool.{and_parts, and_from, both_ways, or_from, or_parts, eqb-false}
use Rattle.std.proofs.lemmas.Bool.{eqb-true, ne_eqb}
use Rattle.std.proofs.lemmas.List.{append-nil}
use Rattle.std.proofs.lemmas.List.Elements.{filter-append}
use Rattle.series_id.specs.Identity.{Identity, row_length}
use Rattle.series_id.specs.Order.{same_series}
use Rattle.metric_events.specs.DataPoint.{DataPoint}
use Rattle.metric_events.specs.Rows.{add_rows}
use Rattle.metric_events.specs.History.{History, ◌▸◌}
use Rattle.metric_events.specs.Points.{points, is_home, is_in_flight, landed, admitted}
use Rattle.metric_events.specs.Running.{held_senders, is_other_flight, is_other_sender}
use Rattle.metric_events.specs.Running.{live_flushes}
use Rattle.metric_events.specs.Series.{is_of, of_series, owner, frontier, row_sum, sum_of}
use Rattle.metric_events.specs.Standing.{stands, sum_where}
use Rattle.metric_events.specs.Legal.{IsLegal, is_held, is_live}
use Rattle.metric_events.specs.Lasting.{is_one_of}
use Rattle.metric_events.specs.declared.accepted.Accepted.{Accepted}
use Rattle.metric_events.specs.declared.batch.Batch.{Batch}
use Rattle.metric_events.specs.declared.flight.Flight.{Flight}
use Rattle.metric_events.specs.declared.place.Place.{Place}
use Rattle.metric_events.specs.declared.place.Place.TheVariants.{Home, InFlight, Acknowledged}
use Rattle.metric_events.specs.declared.event.Event.TheVariants.{Admit, Confirm, Settle}
use Rattle.metric_events.specs.declared.event.Event.TheVariants.{GiveBack, Quarantine, Lift}
use Rattle.metric_events.proofs.Lists.{all_always, all_filter, any_filter_same, filter-filter}
use Rattle.metric_events.proofs.Lists.{filter-map, filter_none}
use Rattle.metric_events.proofs.Sums.{add_rows-assoc, add_rows-zeros, add_rows_swap, row_sum_long}
use Rattle.metric_events.proofs.Fits.{landed_point, row_sum-map}
use Rattle.metric_events.proofs.Bare.{sum_append}
use Rattle.metric_events.proofs.Turns.{keeps_landed}
use Rattle.service_law.specs.Machine.{Checkpoint, Run, book, given_back, group_of}
use Rattle.service_law.specs.Machine.{has_committed, has_taken}
use Rattle.service_law.specs.Counted.{all_rules}
use Rattle.service_law.specs.Known.{Flies, Knows, are_live, giving_back, is_in_one}
use Rattle.service_law.proofs.Flushing.{any_kept, flies, frontier_kept, owner_kept}

of_landed : (f : ℕ) (q : Place) (x : Identity) (qs : List Accepted)
    → of_series x (map (landed f q) qs) ≡ map (landed f q) (of_series x qs)
of_landed f q x qs = filter-map (is_of x) (landed f q)
    (λ a. ap (λ (p : DataPoint). same_series p.series x) (landed_point f q a)) qs

-- what is in flight stays so behind posts, and where another flush ends

home_in_none : (fs : List ℕ) → is_in_one fs Home ≡ false
home_in_none [] = refl
home_in_none (f ∷ fs) = home_in_none fs

settled_in_none : (fs : List ℕ) → is_in_one fs Acknowledged ≡ false
settled_in_none [] = refl
settled_in_none (f ∷ fs) = settled_in_none fs

none_fly : (fs : List ℕ) (b : ℕ) (s : List ℕ) (ds : List DataPoint)
    → list_all (λ a. not (is_in_one fs a.place)) (map (admitted b s) ds) ≡ true
none_fly fs b s [] = refl
none_fly fs b s (d ∷ ds) = and_from (not (is_in_one fs Home))
    (list_all (λ a. not (is_in_one fs a.place)) (map (admitted b s) ds))
    (ap not (home_in_none fs)) (none_fly fs b s ds)

flight_more : (fs : List ℕ) (x : Identity) (b : ℕ) (s : List ℕ) (ds : List DataPoint)
    (qs : List Accepted)
    → sum_where (is_in_one fs) x (qs ++ map (admitted b s) ds) ≡ sum_where (is_in_one fs) x qs
flight_more fs x b s ds qs =
    ap (λ us. row_sum n (filter (stands (is_in_one fs)) us)) (filter-append (is_of x) qs new)
    ∙ (ap (row_sum n)
    (filter-append (stands (is_in_one fs)) (of_series x qs) (of_series x new))
    ∙ (ap (λ us. row_sum n (filter (stands (is_in_one fs)) (of_series x qs) ++ us))
    (filter_none (stands (is_in_one fs)) (of_series x new)
    (all_filter (λ a. not (is_in_one fs a.place)) (is_of x) new (none_fly fs b s ds)))
    ∙ ap (row_sum n) (append-nil (filter (stands (is_in_one fs)) (of_series x qs)))))
  where
    n : ℕ
    n = row_length x.kind

    new : List Accepted
    new = map (admitted b s) ds

other_flight : (f g : ℕ) (p : Place) → (f == g) ≡ false → is_in_flight g p ≡ true
    → is_in_flight f p ≡ false
other_flight f g (InFlight h) ne e =
    ne_eqb h f (λ i. eqb-false f g ne (sym i ∙ eqb-true h g e))
other_flight f g place ne e = refl

other_flights : (fs : List ℕ) (g : ℕ) (p : Place) → is_one_of g fs ≡ false
    → is_in_flight g p ≡ true → is_in_one fs p ≡ false
other_flights [] g p n e = refl
other_flights (f ∷ fs) g p n e = let l = or_parts (f == g) (is_one_of g fs) n in
    or_from (is_in_flight f p) (is_in_one fs p) (other_flight f g p l.0 e)
    (other_flights fs g p l.1 e)

flight_kept : (fs : List ℕ) (g : ℕ) → is_one_of g fs ≡ false → (a : Accepted)
    → is_in_one fs (landed g Acknowledged a).place ≡ is_in_one fs a.place
flight_kept fs g n a = by (is_in_flight g a.place) refl
  where
    by : (v : Bool) → is_in_flight g a.place ≡ v
        → is_in_one fs (landed g Acknowledged a).place ≡ is_in_one fs a.place
    by true e = rw e (settled_in_none fs ∙ sym (other_flights fs g a.place n e))
    by false e = rw e refl

flight_other : (fs : List ℕ) (g : ℕ) (x : Identity) (qs : List Accepted) → is_one_of g fs ≡ false
    → sum_where (is_in_one fs) x (map (landed g Acknowledged) qs)
    ≡ sum_where (is_in_one fs) x qs
flight_other fs g x qs ne =
    ap (λ us. row_sum n (filter (stands (is_in_one fs)) us)) (of_landed g Acknowledged x qs)
    ∙ (ap (row_sum n) (filter-map (stands (is_in_one fs)) (landed g Acknowledged)
    (flight_kept fs g ne) (of_series x qs))
    ∙ row_sum-map n (landed g Acknowledged) (landed_point g Acknowledged)
    (filter (stands (is_in_one fs)) (of_series x qs)))
  where
    n : ℕ
    n = row_length x.kind

live_other : (fs : List ℕ) (g : ℕ) (live : List Flight) → is_one_of g fs ≡ false
    → are_live fs live ≡ true → are_live fs (filter (is_other_flight g) live) ≡ true
live_other [] g live n h = refl
live_other (f ∷ fs) g live n h =
    let l = or_parts (f == g) (is_one_of g fs) n in
    let p = and_parts (is_live f live) (are_live fs (filter (is_other_flight f) live)) h in
    and_from (is_live f (filter (is_other_flight g) live))
    (are_live fs (filter (is_other_flight f) (filter (is_other_flight g) live)))
    (any_filter_same (λ k. k.number == f) (is_other_flight g)
    (λ k e. ap not (ap (λ i. i == g) (eqb-true k.number f e) ∙ l.0)) live ∙ p.0)
    (ap (are_live fs) (filter-filter (is_other_flight f) (is_other_flight g) live)
    ∙ live_other fs g (filter (is_other_flight f) live) l.1 p.1)

pub flying_law : (E : History) (r : Run) (fs : List ℕ) → Flies E fs r
    → ((b : ℕ) (body : Batch)
    → Flies (E ▸ Admit b body ▸ Confirm b) fs (has_taken all_rules body r))
    × ((n : ℕ) → Flies E fs (record r { queue = drop n r.queue }))
    × ((s : List ℕ) → Flies (E ▸ Quarantine s) fs (record r { held = r.held ++ s ∷ [] }))
    × ((s : List ℕ)
    → Flies (E ▸ Lift s) fs (record r { held = filter (is_other_sender s) r.held }))
    × ((g : ℕ) → is_one_of g fs ≡ false → Flies (E ▸ Settle g) fs r)
flying_law E r fs h = (
  (λ b body. record {
    live = h.live;
    sums = λ x. h.sums x ∙ sym (flight_more fs x b body.sender body.points (points E));
  }),
  (λ n. record { live = h.live; sums = h.sums }),
  (λ s. record { live = h.live; sums = h.sums }),
  (λ s. record { live = h.live; sums = h.sums }),
  (λ g n. record {
    live = live_other fs g (live_flushes E) n h.live;
    sums = λ x. h.sums x ∙ sym (flight_other fs g x (points E) n);
  }),
)

-- what is written, and what is committed, the books know as before

pub written_law : (E : History) (r : Run) (n : ℕ) → Knows E r
    → Knows E (record r { queue = drop n r.queue })
written_law E r n k = record {
  any = k.any;
  owners = k.owners;
  frontiers = k.frontiers;
  sums = k.sums;
  held = k.held;
}

pub committed_law : (E : History) (r : Run) (c : Checkpoint) → Knows E r → r.checkpoint ≡ Some c
    → Knows E (has_committed c r)
committed_law E r c k e = record {
  any = λ x. ap (list_any (is_of x)) same ∙ k.any x;
  owners = λ x. ap (owner x) same ∙ k.owners x;
  frontiers = λ x. ap (frontier x) same ∙ k.frontiers x;
  sums = k.sums;
  held = k.held;
}
  where
    same : book (has_committed c r) ≡ book r
    same = append_assoc r.known c.group r.pending
        ∙ ap (λ (o : Option Checkpoint). r.known ++ (group_of o ++ r.pending)) (sym e)

-- what is given back is pending again

in_one_away : (fs : List ℕ) (p : Place) → is_in_one fs p ≡ true → is_home p ≡ false
in_one_away fs Home h = absurd (both_ways _ (home_in_none fs) h)
in_one_away fs place h = refl

-- one flush of several
back_rows : (n f : ℕ) (fs : List ℕ) (us : List Accepted)
    → add_rows (row_sum n (filter (stands (is_in_one (f ∷ fs))) us))
    (row_sum n (filter (stands is_home) us))
    ≡ add_rows (row_sum n (filter (stands (is_in_one fs)) (map (landed f Home) us)))
    (row_sum n (filter (stands is_home) (map (landed f Home) us)))
back_rows n f fs [] = refl
back_rows n f fs (a ∷ us) = both (is_in_flight f a.place) (is_in_one fs a.place) (is_home a.place)
    refl refl refl (back_rows n f fs us)
  where
    flying : List ℕ
    flying = row_sum n (filter (stands (is_in_one (f ∷ fs))) us)

    home : List ℕ
    home = row_sum n (filter (stands is_home) us)

    flying_then : List ℕ
    flying_then = row_sum n (filter (stands (is_in_one fs)) (map (landed f Home) us))

    home_then : List ℕ
    home_then = row_sum n (filter (stands is_home) (map (landed f Home) us))

    both : (v w u : Bool) → is_in_flight f a.place ≡ v → is_in_one fs a.place ≡ w
        → is_home a.place ≡ u → add_rows flying home ≡ add_rows flying_then home_then
        → add_rows (row_sum n (filter (stands (is_in_one (f ∷ fs))) (a ∷ us)))
        (row_sum n (filter (stands is_home) (a ∷ us)))
        ≡ add_rows (row_sum n (filter (stands (is_in_one fs)) (map (landed f Home) (a ∷ us))))
        (row_sum n (filter (stands is_home) (map (landed f Home) (a ∷ us))))
    both true w u e g h r = rw (e, flies f a.place e, home_in_none fs)
        (add_rows-assoc a.point.row flying home
        ∙ (ap (add_rows a.point.row) r
        ∙ add_rows_swap a.point.row flying_then home_then))
    both false true u e g h r = rw (e, g, in_one_away fs a.place g)
        (add_rows-assoc a.point.row flying home
        ∙ (ap (add_rows a.point.row) r
        ∙ sym (add_rows-assoc a.point.row flying_then home_then)))
    both false false true e g h r = rw (e, g, h)
        (add_rows_swap flying a.point.row home
        ∙ (ap (add_rows a.point.row) r
        ∙ add_rows_swap a.point.row flying_then home_then))
    both false false false e g h r = rw (e, g, h) r

home_back : (x : Identity) (fs : List ℕ) (E : History)
    → add_rows (sum_where (is_in_one fs) x (points E)) (sum_where is_home x (points E))
    ≡ sum_where is_home x (points (giving_back E fs))
home_back x [] E =
    ap (λ us. add_rows (row_sum n us) (sum_where is_home x (points E)))
    (filter_none (stands (is_in_one [])) (of_series x (points E))
    (all_always (λ a. not (is_in_one [] a.place)) (λ a. refl) (of_series x (points E))))
    ∙ add_rows-zeros n (sum_where is_home x (points E))
    (row_sum_long n (filter (stands is_home) (of_series x (points E))))
  where
    n : ℕ
    n = row_length x.kind
home_back x (f ∷ fs) E =
    back_rows (row_length x.kind) f fs (of_series x (points E))
    ∙ (sym (ap (λ us. add_rows
    (row_sum (row_length x.kind) (filter (stands (is_in_one fs)) us))
    (row_sum (row_length x.kind) (filter (stands is_home) us))) (of_landed f Home x (points E)))
    ∙ home_back x fs (E ▸ GiveBack f))

-- and the rest is as it was

any_back : (x : Identity) (fs : List ℕ) (E : History)
    → list_any (is_of x) (points (giving_back E fs)) ≡ list_any (is_of x) (points E)
any_back x [] E = refl
any_back x (f ∷ fs) E = any_back x fs (E ▸ GiveBack f)
    ∙ any_kept (landed f Home) (keeps_landed f Home) x (points E)

owner_back : (x : Identity) (fs : List ℕ) (E : History)
    → owner x (points (giving_back E fs)) ≡ owner x (points E)
owner_back x [] E = refl
owner_back x (f ∷ fs) E = owner_back x fs (E ▸ GiveBack f)
    ∙ owner_kept (landed f Home) (keeps_landed f Home) x (points E)

frontier_back : (x : Identity) (fs : List ℕ) (E : History)
    → frontier x (points (giving_back E fs)) ≡ frontier x (points E)
frontier_back x [] E = refl
frontier_back x (f ∷ fs) E = frontier_back x fs (E ▸ GiveBack f)
    ∙ frontier_kept (landed f Home) (keeps_landed f Home) x (points E)

held_back : (fs : List ℕ) (E : History) → held_senders (giving_back E fs) ≡ held_senders E
held_back [] E = refl
held_back (f ∷ fs) E = held_back fs (E ▸ GiveBack f)

may_go_back : (fs : List ℕ) (E : History) → are_live fs (live_flushes E) ≡ true → IsLegal E
    → IsLegal (giving_back E fs)
may_go_back [] E h l = l
may_go_back (f ∷ fs) E h l =
    let p = and_parts (is_live f (live_flushes E))
    (are_live fs (filter (is_other_flight f) (live_flushes E))) h in
    may_go_back fs (E ▸ GiveBack f) p.1 (l, p.0)

-- the process that gives it back
record IsBack (r : Run) (o : Option Checkpoint) (s : Run) : Type 0 where
  booked : book s ≡ r.known ++ (group_of o ++ r.pending)
  pends : s.pending ≡ group_of o ++ r.pending
  held : s.held ≡ r.held

is_back : (r : Run) (o : Option Checkpoint)
    → IsBack r o (given_back (record r { checkpoint = o }) o)
is_back r None = record { booked = refl; pends = refl; held = refl }
is_back r (Some c) = record { booked = refl; pends = refl; held = refl }

pub given_back_law : (E : History) (r : Run) (fs : List ℕ) → Knows E r → Flies E fs r
    → (IsLegal E → IsLegal (giving_back E fs))
    × Knows (giving_back E fs) (given_back r r.checkpoint)
given_back_law E r fs k h = (
  may_go_back fs E h.live,
  record {
    any = λ x. ap (list_any (is_of x)) back.booked ∙ (k.any x ∙ sym (any_back x fs E));
    owners = λ x. ap (owner x) back.booked ∙ (k.owners x ∙ sym (owner_back x fs E));
    frontiers = λ x. ap (frontier x) back.booked ∙ (k.frontiers x ∙ sym (frontier_back x fs E));
    sums = λ x. ap (sum_of x) back.pends
        ∙ (sum_append x (group_of r.checkpoint) r.pending
        ∙ (ap (λ row. add_rows row (sum_of x r.pending)) (h.sums x)
        ∙ (ap (add_rows (sum_where (is_in_one fs) x (points E))) (k.sums x)
        ∙ home_back x fs E)));
    held = λ s. ap (is_held s) back.held ∙ (k.held s ∙ ap (is_held s) (sym (held_back fs E)));
  },
)
  where
    back : IsBack r r.checkpoint (given_back r r.checkpoint)
    back = is_back r r.checkpoint
