-- Two histories that stand alike go on alike, whatever comes after both, under whatever numbers.
use Rattle.std.proofs.Common.{◌≡◌, ℕ, ◌==◌, ◌≤◌, Bool, true, false, cond, not, ◌&&◌, ◌||◌, List, []}
use Rattle.std.proofs.Common.{◌∷◌, ◌++◌, map, max, min, length, refl, ap, sym, ◌∙◌, inl, inr, subst}
use Rattle.std.proofs.Common.{take, arith, append_assoc, length-append, Some, None}
use Rattle.std.specs.declared.option.Option.{Option}
use Rattle.std.specs.List.{list_any, list_all, filter}
use Rattle.std.proofs.lemmas.Bool.{and_parts, and_from, or_cases, or_left, or_right, eqb-true}
use Rattle.std.proofs.lemmas.Bool.{eq-eqb}
use Rattle.std.proofs.lemmas.List.{append-nil, map-append, length-map}
use Rattle.std.proofs.lemmas.List.Folds.{list_any-append}
use Rattle.std.proofs.lemmas.List.Elements.{filter-append}
use Rattle.series_id.specs.Identity.{Identity, row_length}
use Rattle.series_id.specs.Order.{same_series, series_before}
use Rattle.series_id.proofs.Order.{same_series-exact, same_series-refl}
use Rattle.metric_events.specs.Interval.{Interval, joined_to}
use Rattle.metric_events.specs.Rows.{add_rows}
use Rattle.metric_events.specs.DataPoint.{DataPoint}
use Rattle.metric_events.specs.History.{History, Opened, ◌▸◌, ◌then◌, IsNewBatch}
use Rattle.metric_events.specs.Points.{points, is_home, is_in_flight, is_among, at, taken, landed}
use Rattle.metric_events.specs.Points.{admitted, is_of_other_batch}
use Rattle.metric_events.specs.Running.{open_after, held_after, live_flushes, open_batches}
use Rattle.metric_events.specs.Running.{held_senders, is_other_sender, is_another}
use Rattle.metric_events.specs.Senders.{same_sender, are_once}
use Rattle.metric_events.specs.Series.{is_of, of_series, hull, row_sum, merged, owner, frontier}
use Rattle.metric_events.specs.Series.{is_ascending, series_in_order}
use Rattle.metric_events.specs.Legal.{IsLegal, HasRoom, Allowed, MayAdmit, MayUndo, MayTake}
use Rattle.metric_events.specs.Legal.{MayQuarantine, is_held, is_in_live, is_open, is_live}
use Rattle.metric_events.specs.Legal.{is_batch_home}
use Rattle.metric_events.specs.Choice.{is_cargo, is_eligible, first_eligible, pick, flush_points}
use Rattle.metric_events.specs.Choice.{present}
use Rattle.metric_events.specs.Standing.{stands}
use Rattle.metric_events.specs.Lasting.{renumbered, numbers, batch_number, flush_number, is_one_of}
use Rattle.metric_events.specs.Lasting.{KeepsApart, renumbered_flight, renumbered_event}
use Rattle.metric_events.specs.Congruence.{StandAlike, IsCalm, EndsOwn, StandOn, Suits, AllSuit}
use Rattle.metric_events.specs.Strike.{is_taken_in}
use Rattle.metric_events.specs.declared.event.Event.{Event}
use Rattle.metric_events.proofs.Striking.{legal_before, map_each}
use Rattle.metric_events.specs.declared.flight.Flight.{Flight}
use Rattle.metric_events.specs.declared.accepted.Accepted.{Accepted}
use Rattle.metric_events.specs.declared.place.Place.{Place}
use Rattle.metric_events.specs.declared.place.Place.TheVariants.{Home, InFlight, Acknowledged}
use Rattle.metric_events.specs.declared.place.Place.TheVariants.{Dropped}
use Rattle.metric_events.specs.declared.event.Event.TheVariants.{Admit, Undo, Confirm, Take, Settle}
use Rattle.metric_events.specs.declared.event.Event.TheVariants.{Drop, GiveBack, Quarantine, Lift}
use Rattle.metric_events.proofs.Lists.{any_append_right, any_all_not, filter_keeps, all_append}
use Rattle.metric_events.proofs.Lists.{all_first, all_last, all_both, all_map, both_at}
use Rattle.metric_events.proofs.Lists.{length_without, any_none, all_filter, all_weaker}
use Rattle.metric_events.proofs.Lists.{filter_where, filter-map}
use Rattle.metric_events.proofs.Moves.{made, rides}
use Rattle.metric_events.proofs.InOrder.{not_among, series_ascend}
use Rattle.metric_events.proofs.SeriesOnce.{among_in_order}
use Rattle.metric_events.proofs.Senders.{same_sender-exact, same_sender-refl}
use Rattle.metric_events.proofs.Owners.{OneOwner, one_owner, is_by_or_other}
use Rattle.metric_events.proofs.Fits.{row_sum-map, taken_point, landed_point}
use Rattle.metric_events.proofs.Sums.{row_sum-append}
use Rattle.metric_events.proofs.Bare.{bare_owner, bare_frontier, owner_append, frontier_append}
use Rattle.metric_events.proofs.Behind.{moved_keeps, UndoesOwn, behind, undoes_own, open_own}
use Rattle.metric_events.proofs.Behind.{other_moved}
use Rattle.metric_events.proofs.Kept.{is_settled_at, settled_or_home, no_ride, moved_owner}
use Rattle.metric_events.proofs.Kept.{moved_frontier, moved_any}
use Rattle.metric_events.proofs.Recovering.{alike_known, all_own, clearer_known, Clearer}
use Rattle.metric_events.proofs.Recovering.{turn_clearer, turn_order, known_no_other}
use Rattle.metric_events.proofs.Counts.{NoOther, count_le}
use Rattle.metric_events.specs.declared.batch.Batch.{Batch}
use Rattle.metric_events.specs.Recall.{moved, news}
use Rattle.metric_events.proofs.Invariants.{new_points, new_batch}
use Rattle.metric_events.proofs.Held.{held_once}
use Rattle.metric_events.proofs.Renewing.{not_back, before_of}
use Rattle.metric_events.proofs.Lasting.{same_number, apart_last, first_one, turned_place, turned}
use Rattle.metric_events.proofs.Lasting.{flies_in_at, flies_in, news_fly, turned_news, went}
use Rattle.metric_events.proofs.Lasting.{went_one, went_settled, home_turned, flight_turned}
use Rattle.metric_events.proofs.Lasting.{not_home, not_in_flight, bare_turned, live_same}
use Rattle.metric_events.proofs.Lasting.{in_live_same, taken_number, flush_at, flush_past}
use Rattle.metric_events.proofs.Lasting.{is_of_one, news_one}

-- weights: the covering span and the sum of points

abbrev pub both_spans : Option Interval → Option Interval → Option Interval
both_spans None o = o
both_spans (Some p) o = Some (joined_to p o)

abbrev span_of : ℕ → ℕ → Interval
span_of m n = record { start = m; end = n }

joined_assoc : (p : Interval) (o r : Option Interval)
    → joined_to p (both_spans o r) ≡ joined_to (joined_to p o) r
joined_assoc p None r = refl
joined_assoc p (Some q) None = refl
joined_assoc p (Some q) (Some s) =
    let m : min p.start (min q.start s.start) ≡ min (min p.start q.start) s.start = omega arith in
    let n : max p.end (max q.end s.end) ≡ max (max p.end q.end) s.end = omega arith in
    ap (λ i. span_of i (max p.end (max q.end s.end))) m
    ∙ ap (span_of (min (min p.start q.start) s.start)) n

hull_append : (qs rs : List Accepted) → hull (qs ++ rs) ≡ both_spans (hull qs) (hull rs)
hull_append [] rs = refl
hull_append (a ∷ qs) rs = ap (λ o. Some (joined_to a.point.span o)) (hull_append qs rs)
    ∙ ap Some (joined_assoc a.point.span (hull qs) (hull rs))

hull_map : (g : Accepted → Accepted) → ((a : Accepted) → (g a).point ≡ a.point)
    → (qs : List Accepted) → hull (map g qs) ≡ hull qs
hull_map g e [] = refl
hull_map g e (a ∷ qs) = ap (λ (p : DataPoint). Some (joined_to p.span (hull (map g qs)))) (e a)
    ∙ ap (λ o. Some (joined_to a.point.span o)) (hull_map g e qs)

pub record Weigh (n : ℕ) (qs rs : List Accepted) : Type 0 where
  pub span : hull rs ≡ hull qs
  pub row : row_sum n rs ≡ row_sum n qs

pub weigh_append : (n : ℕ) (qs rs us vs : List Accepted) → Weigh n qs rs → Weigh n us vs
    → Weigh n (qs ++ us) (rs ++ vs)
weigh_append n qs rs us vs h k = record {
  span = hull_append rs vs ∙ (ap (λ o. both_spans o (hull vs)) h.span
      ∙ (ap (both_spans (hull qs)) k.span ∙ sym (hull_append qs us)));
  row = row_sum-append n rs vs ∙ (ap (λ r. add_rows r (row_sum n vs)) h.row
      ∙ (ap (add_rows (row_sum n qs)) k.row ∙ sym (row_sum-append n qs us)));
}

pub weigh_maps : (n : ℕ) (f g : Accepted → Accepted) → ((a : Accepted) → (f a).point ≡ a.point)
    → ((a : Accepted) → (g a).point ≡ a.point) → (qs rs : List Accepted) → Weigh n qs rs
    → Weigh n (map f qs) (map g rs)
weigh_maps n f g d e qs rs h = record {
  span = hull_map g e rs ∙ (h.span ∙ sym (hull_map f d qs));
  row = row_sum-map n g e rs ∙ (h.row ∙ sym (row_sum-map n f d qs));
}

weigh_merged : (x : Identity) (qs rs : List Accepted) → Weigh (row_length x.kind) qs rs
    → merged x rs ≡ merged x qs
weigh_merged x [] [] h = refl
weigh_merged x [] (b ∷ rs) h = absurd (let q = h.span in cc)
weigh_merged x (a ∷ qs) [] h = absurd (let q = h.span in cc)
weigh_merged x (a ∷ qs) (b ∷ rs) h =
    ap (λ o. point_of o (row_sum (row_length x.kind) (b ∷ rs))) h.span
    ∙ ap (point_of (hull (a ∷ qs))) h.row
  where
    point_of : Option Interval → List ℕ → Option DataPoint
    point_of None row = None
    point_of (Some span) row = Some (record { series = x; span = span; row = row })

-- where what is pending of a series is brought by the flushes of G: all of it moves together

abbrev pub route : History → Identity → Place
route (Opened O) x = Home
route (G ▸ Take f series) x =
    cond (is_home (route G x) && is_among x series) (InFlight f) (route G x)
route (G ▸ Settle f) x = cond (is_in_flight f (route G x)) Acknowledged (route G x)
route (G ▸ Drop f) x = cond (is_in_flight f (route G x)) Dropped (route G x)
route (G ▸ GiveBack f) x = cond (is_in_flight f (route G x)) Home (route G x)
route (G ▸ e) x = route G x

routed_taken : (f : ℕ) (series : List Identity) (p : DataPoint) (b : ℕ) (s : List ℕ) (q : Place)
    → taken f series (made p b s q)
    ≡ made p b s (cond (is_home q && is_among p.series series) (InFlight f) q)
routed_taken f series p b s q = elim (is_home q && is_among p.series series)
    as (λ v. cond v (made p b s (InFlight f)) (made p b s q) ≡ made p b s (cond v (InFlight f) q))
    [ true ↦ refl | false ↦ refl ]

routed_landed : (f : ℕ) (r : Place) (p : DataPoint) (b : ℕ) (s : List ℕ) (q : Place)
    → landed f r (made p b s q) ≡ made p b s (cond (is_in_flight f q) r q)
routed_landed f r p b s q = elim (is_in_flight f q)
    as (λ v. cond v (made p b s r) (made p b s q) ≡ made p b s (cond v r q))
    [ true ↦ refl | false ↦ refl ]

went_made : (G : History) (p : DataPoint) (b : ℕ) (s : List ℕ)
    → went G (made p b s Home) ≡ made p b s (route G p.series)
went_made (Opened O) p b s = refl
went_made (G ▸ Take f series) p b s =
    ap (taken f series) (went_made G p b s) ∙ routed_taken f series p b s (route G p.series)
went_made (G ▸ Settle f) p b s = ap (landed f Acknowledged) (went_made G p b s)
    ∙ routed_landed f Acknowledged p b s (route G p.series)
went_made (G ▸ Drop f) p b s =
    ap (landed f Dropped) (went_made G p b s) ∙ routed_landed f Dropped p b s (route G p.series)
went_made (G ▸ GiveBack f) p b s =
    ap (landed f Home) (went_made G p b s) ∙ routed_landed f Home p b s (route G p.series)
went_made (G ▸ e) p b s = went_made G p b s

pub went_home : (G : History) (x : Identity) (p : DataPoint) (b : ℕ) (s : List ℕ) (q : Place)
    → is_home q ≡ true → same_series p.series x ≡ true
    → went G (made p b s q) ≡ at (route G x) (made p b s q)
went_home G x p b s Home h e =
    went_made G p b s ∙ ap (λ y. made p b s (route G y)) (same_series-exact p.series x e)
went_home G x p b s q h e = absurd (let w : false ≡ true = h in cc)

pub went_point : (G : History) (a : Accepted) → (went G a).point ≡ a.point
went_point (Opened O) a = refl
went_point (G ▸ Take f series) a = taken_point f series (went G a) ∙ went_point G a
went_point (G ▸ Settle f) a = landed_point f Acknowledged (went G a) ∙ went_point G a
went_point (G ▸ Drop f) a = landed_point f Dropped (went G a) ∙ went_point G a
went_point (G ▸ GiveBack f) a = landed_point f Home (went G a) ∙ went_point G a
went_point (G ▸ e) a = went_point G a

pub moved_nil : (G : History) → moved G [] ≡ []
moved_nil G = moved_keeps (λ us. us ≡ []) (λ f series us e. ap (map (taken f series)) e)
    (λ f q us e. ap (map (landed f q)) e) G [] refl

-- the points of a series in such a state
abbrev pub chosen : (Place → Bool) → Identity → List Accepted → List Accepted
chosen t x qs = filter (stands t) (of_series x qs)

pub chosen_first : (t : Place → Bool) (x : Identity) (a : Accepted) (qs : List Accepted)
    → chosen t x (a ∷ qs) ≡ cond (is_of x a && t a.place) (a ∷ chosen t x qs) (chosen t x qs)
chosen_first t x a qs = elim (is_of x a)
    as (λ v. filter (stands t) (cond v (a ∷ of_series x qs) (of_series x qs))
    ≡ cond (v && t a.place) (a ∷ chosen t x qs) (chosen t x qs)) [ true ↦ refl | false ↦ refl ]

pub chosen_append : (t : Place → Bool) (x : Identity) (qs rs : List Accepted)
    → chosen t x (qs ++ rs) ≡ chosen t x qs ++ chosen t x rs
chosen_append t x qs rs = ap (filter (stands t)) (filter-append (is_of x) qs rs)
    ∙ filter-append (stands t) (of_series x qs) (of_series x rs)

-- a test that no settled point passes
abbrev pub OfUnsettled : (Place → Bool) → Type 0
OfUnsettled t = (q : Place) → is_settled_at q ≡ true → t q ≡ false

abbrev pub brought : Place → Bool → List Accepted → List Accepted
brought q v us = map (at q) (cond v us [])

pub chosen_moved : (t : Place → Bool) → OfUnsettled t
    → (G : History) (x : Identity) (qs : List Accepted) → list_all (rides []) qs ≡ true
    → chosen t x (moved G qs)
    ≡ map (at (route G x)) (cond (t (route G x)) (chosen is_home x qs) [])
chosen_moved t u G x [] h = ap (chosen t x) (moved_nil G)
    ∙ (elim (t (route G x)) as (λ v. [] ≡ map (at (route G x)) (cond v [] []))
    [ true ↦ refl | false ↦ refl ])
chosen_moved t u G x (a ∷ qs) h =
    ap (chosen t x) (went_one G a qs)
    ∙ (chosen_first t x (went G a) (moved G qs)
    ∙ (ap (λ v. cond (v && t (went G a).place) (went G a ∷ chosen t x (moved G qs))
    (chosen t x (moved G qs))) (ap (λ (p : DataPoint). same_series p.series x) (went_point G a))
    ∙ (both (is_of x a) (is_home a.place) refl refl (chosen_moved t u G x qs l.1)
    ∙ sym (ap (λ us. map (at (route G x)) (cond (t (route G x)) us []))
    (chosen_first is_home x a qs)))))
  where
    l : (rides [] a ≡ true) × (list_all (rides []) qs ≡ true)
    l = and_parts (rides [] a) (list_all (rides []) qs) h

    pass : (w : Bool) → t (route G x) ≡ w
        → chosen t x (moved G qs) ≡ brought (route G x) (t (route G x)) (chosen is_home x qs)
        → cond (t (route G x)) (at (route G x) a ∷ chosen t x (moved G qs))
        (chosen t x (moved G qs))
        ≡ brought (route G x) (t (route G x)) (a ∷ chosen is_home x qs)
    pass true e r =
        ap (λ v. cond v (at (route G x) a ∷ chosen t x (moved G qs)) (chosen t x (moved G qs))) e
        ∙ (ap (λ us. at (route G x) a ∷ us)
        (r ∙ ap (λ v. brought (route G x) v (chosen is_home x qs)) e)
        ∙ sym (ap (λ v. brought (route G x) v (a ∷ chosen is_home x qs)) e))
    pass false e r =
        ap (λ v. cond v (at (route G x) a ∷ chosen t x (moved G qs)) (chosen t x (moved G qs))) e
        ∙ (r ∙ (ap (λ v. brought (route G x) v (chosen is_home x qs)) e
        ∙ sym (ap (λ v. brought (route G x) v (a ∷ chosen is_home x qs)) e)))

    both : (v w : Bool) → is_of x a ≡ v → is_home a.place ≡ w
        → chosen t x (moved G qs) ≡ brought (route G x) (t (route G x)) (chosen is_home x qs)
        → cond (is_of x a && t (went G a).place) (went G a ∷ chosen t x (moved G qs))
        (chosen t x (moved G qs)) ≡ brought (route G x) (t (route G x))
        (cond (is_of x a && is_home a.place) (a ∷ chosen is_home x qs)
        (chosen is_home x qs))
    both false w e g r = ap (λ v. cond (v && t (went G a).place)
        (went G a ∷ chosen t x (moved G qs)) (chosen t x (moved G qs))) e
        ∙ (r ∙ sym (ap (λ v. brought (route G x) (t (route G x))
        (cond (v && is_home a.place) (a ∷ chosen is_home x qs) (chosen is_home x qs))) e))
    both true true e g r =
        ap (λ v. cond (v && t (went G a).place) (went G a ∷ chosen t x (moved G qs))
        (chosen t x (moved G qs))) e
        ∙ (ap (λ (b : Accepted). cond (t b.place) (b ∷ chosen t x (moved G qs))
        (chosen t x (moved G qs))) (went_home G x a.point a.batch a.sender a.place g e)
        ∙ (pass (t (route G x)) refl r
        ∙ (sym (ap (λ v. brought (route G x) (t (route G x))
        (cond v (a ∷ chosen is_home x qs) (chosen is_home x qs))) g)
        ∙ sym (ap (λ v. brought (route G x) (t (route G x))
        (cond (v && is_home a.place) (a ∷ chosen is_home x qs) (chosen is_home x qs))) e))))
    both true false e g r =
        let s = settled_or_home a.point a.batch a.sender a.place l.0 g in
        ap (λ v. cond (v && t (went G a).place) (went G a ∷ chosen t x (moved G qs))
        (chosen t x (moved G qs))) e
        ∙ (ap (λ v. cond v (went G a ∷ chosen t x (moved G qs)) (chosen t x (moved G qs)))
        (ap (λ (b : Accepted). t b.place) (went_settled G a s) ∙ u a.place s)
        ∙ (r
        ∙ (sym (ap (λ v. brought (route G x) (t (route G x))
        (cond v (a ∷ chosen is_home x qs) (chosen is_home x qs))) g)
        ∙ sym (ap (λ v. brought (route G x) (t (route G x))
        (cond (v && is_home a.place) (a ∷ chosen is_home x qs) (chosen is_home x qs))) e))))

-- the same under other numbers

place_later : (f : ℕ) (ns : List ℕ) (q : Place) → flies_in_at ns q ≡ true
    → flies_in_at (f ∷ ns) q ≡ true
place_later f ns (InFlight g) h = any_append_right (λ n. n == g) (f ∷ []) ns h
place_later f ns q h = refl

route_flies : (G : History) (x : Identity) → flies_in_at (numbers flush_number G) (route G x) ≡ true
route_flies (Opened O) x = refl
route_flies (G ▸ Take f series) x =
    elim (is_home (route G x) && is_among x series)
    as (λ v. flies_in_at (f ∷ numbers flush_number G) (cond v (InFlight f) (route G x)) ≡ true) [
      | true ↦ first_one f (numbers flush_number G)
      | false ↦ place_later f (numbers flush_number G) (route G x) (route_flies G x)
    ]
route_flies (G ▸ Settle f) x = elim (is_in_flight f (route G x))
    as (λ v. flies_in_at (f ∷ numbers flush_number G) (cond v Acknowledged (route G x)) ≡ true) [
      | true ↦ refl
      | false ↦ place_later f (numbers flush_number G) (route G x) (route_flies G x)
    ]
route_flies (G ▸ Drop f) x = elim (is_in_flight f (route G x))
    as (λ v. flies_in_at (f ∷ numbers flush_number G) (cond v Dropped (route G x)) ≡ true) [
      | true ↦ refl
      | false ↦ place_later f (numbers flush_number G) (route G x) (route_flies G x)
    ]
route_flies (G ▸ GiveBack f) x = elim (is_in_flight f (route G x))
    as (λ v. flies_in_at (f ∷ numbers flush_number G) (cond v Home (route G x)) ≡ true) [
      | true ↦ refl
      | false ↦ place_later f (numbers flush_number G) (route G x) (route_flies G x)
    ]
route_flies (G ▸ e) x = route_flies G x

route_landed : (flush : ℕ → ℕ) (f : ℕ) (ns : List ℕ) (r q : Place) → KeepsApart flush (f ∷ ns)
    → turned_place flush r ≡ r → flies_in_at ns q ≡ true
    → cond (is_in_flight (flush f) (turned_place flush q)) r (turned_place flush q)
    ≡ turned_place flush (cond (is_in_flight f q) r q)
route_landed flush f ns r q k e h =
    ap (λ v. cond v r (turned_place flush q))
    (flight_turned flush (f ∷ ns) f k (first_one f ns) q (place_later f ns q h))
    ∙ (elim (is_in_flight f q) as (λ v. cond v r (turned_place flush q)
    ≡ turned_place flush (cond v r q)) [ true ↦ sym e | false ↦ refl ])

route_turned : (batch flush : ℕ → ℕ) (G : History) (x : Identity)
    → KeepsApart flush (numbers flush_number G)
    → route (renumbered batch flush G) x ≡ turned_place flush (route G x)
route_turned batch flush (Opened O) x k = refl
route_turned batch flush (G ▸ Take f series) x k =
    ap (λ q. cond (is_home q && is_among x series) (InFlight (flush f)) q)
    (route_turned batch flush G x (apart_last flush (f ∷ []) (numbers flush_number G) k))
    ∙ (ap (λ v. cond (v && is_among x series) (InFlight (flush f)) (turned_place flush (route G x)))
    (home_turned flush (route G x))
    ∙ (elim (is_home (route G x) && is_among x series)
    as (λ v. cond v (InFlight (flush f)) (turned_place flush (route G x))
    ≡ turned_place flush (cond v (InFlight f) (route G x))) [ true ↦ refl | false ↦ refl ]))
route_turned batch flush (G ▸ Settle f) x k =
    ap (λ q. cond (is_in_flight (flush f) q) Acknowledged q)
    (route_turned batch flush G x (apart_last flush (f ∷ []) (numbers flush_number G) k))
    ∙ route_landed flush f (numbers flush_number G) Acknowledged (route G x) k refl
    (route_flies G x)
route_turned batch flush (G ▸ Drop f) x k =
    ap (λ q. cond (is_in_flight (flush f) q) Dropped q)
    (route_turned batch flush G x (apart_last flush (f ∷ []) (numbers flush_number G) k))
    ∙ route_landed flush f (numbers flush_number G) Dropped (route G x) k refl
    (route_flies G x)
route_turned batch flush (G ▸ GiveBack f) x k =
    ap (λ q. cond (is_in_flight (flush f) q) Home q)
    (route_turned batch flush G x (apart_last flush (f ∷ []) (numbers flush_number G) k))
    ∙ route_landed flush f (numbers flush_number G) Home (route G x) k refl
    (route_flies G x)
route_turned batch flush (G ▸ e) x k = route_turned batch flush G x k

-- t after E and G says what u says after F and G with other numbers
record Match (flush : ℕ → ℕ) (ns : List ℕ) (t u : Place → Bool) : Type 0 where
  none : OfUnsettled t
  none_too : OfUnsettled u
  same : (q : Place) → flies_in_at ns q ≡ true → u (turned_place flush q) ≡ t q

-- what both go through
pub record Parallel (batch flush : ℕ → ℕ) (E F G : History) : Type 0 where
  pub own : UndoesOwn E G
  pub own_too : UndoesOwn F (renumbered batch flush G)
  pub still : live_flushes E ≡ []
  pub still_too : live_flushes F ≡ []
  pub batches : KeepsApart batch (numbers batch_number G)
  pub flushes : KeepsApart flush (numbers flush_number G)

chosen_turned : (batch flush : ℕ → ℕ) (ns : List ℕ) (t u : Place → Bool) → Match flush ns t u
    → (x : Identity) (qs : List Accepted) → list_all (flies_in ns) qs ≡ true
    → chosen u x (map (turned batch flush) qs) ≡ map (turned batch flush) (chosen t x qs)
chosen_turned batch flush ns t u m x qs h =
    ap (filter (stands u)) (filter-map (is_of x) (turned batch flush) (λ a. refl) qs)
    ∙ filter_where (flies_in ns) (stands u) (stands t) (turned batch flush)
    (λ a k. m.same a.place k) (of_series x qs) (all_filter (flies_in ns) (is_of x) qs h)

chosen_weigh : (batch flush : ℕ → ℕ) (E F G : History) → Parallel batch flush E F G
    → (t u : Place → Bool) → Match flush (numbers flush_number G) t u → (x : Identity)
    → Weigh (row_length x.kind) (chosen is_home x (points E)) (chosen is_home x (points F))
    → Weigh (row_length x.kind) (chosen t x (points (E then G)))
    (chosen u x (points (F then renumbered batch flush G)))
chosen_weigh batch flush E F G p t u m x w =
    subst (λ (qs : List Accepted). Weigh n qs (chosen u x (points (F then H)))) (sym left)
    (subst (λ (rs : List Accepted). Weigh n
    (map (at (route G x)) (cond (t (route G x)) (chosen is_home x (points E)) [])
    ++ chosen t x (news G)) rs) (sym right)
    (weigh_append n (map (at (route G x)) (cond (t (route G x)) (chosen is_home x (points E)) []))
    (map (at (turned_place flush (route G x)))
    (cond (t (route G x)) (chosen is_home x (points F)) [])) (chosen t x (news G))
    (map (turned batch flush) (chosen t x (news G)))
    (weigh_maps n (at (route G x)) (at (turned_place flush (route G x))) (λ a. refl) (λ a. refl)
    (cond (t (route G x)) (chosen is_home x (points E)) [])
    (cond (t (route G x)) (chosen is_home x (points F)) []) olds)
    (record {
      span = hull_map (turned batch flush) (λ a. refl) (chosen t x (news G));
      row =
          row_sum-map n (turned batch flush) (λ a. refl) (chosen t x (news G));
    })))
  where
    n : ℕ
    n = row_length x.kind

    H : History
    H = renumbered batch flush G

    left : chosen t x (points (E then G))
        ≡ map (at (route G x)) (cond (t (route G x)) (chosen is_home x (points E)) [])
        ++ chosen t x (news G)
    left = ap (chosen t x) (behind E G p.own)
        ∙ (chosen_append t x (moved G (points E)) (news G)
        ∙ ap (λ us. us ++ chosen t x (news G))
        (chosen_moved t m.none G x (points E) (no_ride E p.still)))

    right : chosen u x (points (F then renumbered batch flush G))
        ≡ map (at (turned_place flush (route G x)))
        (cond (t (route G x)) (chosen is_home x (points F)) [])
        ++ map (turned batch flush) (chosen t x (news G))
    right =
        ap (chosen u x) (behind F (renumbered batch flush G) p.own_too)
        ∙ (chosen_append u x (moved (renumbered batch flush G) (points F))
        (news (renumbered batch flush G))
        ∙ (ap (λ us. us ++ chosen u x (news (renumbered batch flush G)))
        (chosen_moved u m.none_too (renumbered batch flush G) x (points F)
        (no_ride F p.still_too))
        ∙ (ap (λ q. map (at q) (cond (u q) (chosen is_home x (points F)) [])
        ++ chosen u x (news (renumbered batch flush G)))
        (route_turned batch flush G x p.flushes)
        ∙ (ap (λ v. map (at (turned_place flush (route G x)))
        (cond v (chosen is_home x (points F)) [])
        ++ chosen u x (news (renumbered batch flush G)))
        (m.same (route G x) (route_flies G x))
        ∙ ap (λ us. map (at (turned_place flush (route G x)))
        (cond (t (route G x)) (chosen is_home x (points F)) []) ++ us)
        (ap (chosen u x) (turned_news batch flush G p.batches p.flushes)
        ∙ chosen_turned batch flush (numbers flush_number G) t u m x (news G)
        (news_fly G))))))

    olds : Weigh n (cond (t (route G x)) (chosen is_home x (points E)) [])
        (cond (t (route G x)) (chosen is_home x (points F)) [])
    olds = elim (t (route G x)) as (λ v. Weigh n (cond v (chosen is_home x (points E)) [])
        (cond v (chosen is_home x (points F)) []))
        [ true ↦ w | false ↦ record { span = refl; row = refl } ]

-- owners and frontiers

owner_on : (batch flush : ℕ → ℕ) (E F G : History) → Parallel batch flush E F G → (x : Identity)
    → list_any (is_of x) (points F) ≡ list_any (is_of x) (points E)
    → owner x (points F) ≡ owner x (points E)
    → owner x (points (F then renumbered batch flush G)) ≡ owner x (points (E then G))
owner_on batch flush E F G p x e o =
    ap (owner x) (behind F (renumbered batch flush G) p.own_too)
    ∙ (owner_append x (moved (renumbered batch flush G) (points F))
    (news (renumbered batch flush G))
    ∙ (ap (λ v. cond v (owner x (moved (renumbered batch flush G) (points F)))
    (owner x (news (renumbered batch flush G))))
    (moved_any x (renumbered batch flush G) (points F)
    ∙ (e ∙ sym (moved_any x G (points E))))
    ∙ (ap (λ s. cond (list_any (is_of x) (moved G (points E))) s
    (owner x (news (renumbered batch flush G))))
    (moved_owner x (renumbered batch flush G) (points F)
    ∙ (o ∙ sym (moved_owner x G (points E))))
    ∙ (ap (λ s. cond (list_any (is_of x) (moved G (points E))) (owner x (moved G (points E))) s) new
    ∙ sym (ap (owner x) (behind E G p.own) ∙ owner_append x (moved G (points E)) (news G))))))
  where
    new : owner x (news (renumbered batch flush G)) ≡ owner x (news G)
    new = ap (owner x) (turned_news batch flush G p.batches p.flushes)
        ∙ (sym (bare_owner x (map (turned batch flush) (news G)))
        ∙ (ap (owner x) (bare_turned batch flush (news G)) ∙ bare_owner x (news G)))

frontier_on : (batch flush : ℕ → ℕ) (E F G : History) → Parallel batch flush E F G → (x : Identity)
    → frontier x (points F) ≡ frontier x (points E)
    → frontier x (points (F then renumbered batch flush G)) ≡ frontier x (points (E then G))
frontier_on batch flush E F G p x o =
    ap (frontier x) (behind F (renumbered batch flush G) p.own_too)
    ∙ (frontier_append x (moved (renumbered batch flush G) (points F))
    (news (renumbered batch flush G))
    ∙ (ap (λ n. max n (frontier x (news (renumbered batch flush G))))
    (moved_frontier x (renumbered batch flush G) (points F)
    ∙ (o ∙ sym (moved_frontier x G (points E))))
    ∙ (ap (λ n. max (frontier x (moved G (points E))) n) new
    ∙ sym (ap (frontier x) (behind E G p.own) ∙ frontier_append x (moved G (points E)) (news G)))))
  where
    new : frontier x (news (renumbered batch flush G)) ≡ frontier x (news G)
    new = ap (frontier x) (turned_news batch flush G p.batches p.flushes)
        ∙ (sym (bare_frontier x (map (turned batch flush) (news G)))
        ∙ (ap (frontier x) (bare_turned batch flush (news G)) ∙ bare_frontier x (news G)))

-- what is pending, and what is in flight

home_match : (flush : ℕ → ℕ) (ns : List ℕ) → Match flush ns is_home is_home
home_match flush ns =
    record { none = not_home; none_too = not_home; same = λ q h. home_turned flush q }

cargo_match : (flush : ℕ → ℕ) (ns : List ℕ) (f : ℕ) → KeepsApart flush ns → is_one_of f ns ≡ true
    → Match flush ns (is_in_flight f) (is_in_flight (flush f))
cargo_match flush ns f k o = record {
  none = not_in_flight f;
  none_too =
      not_in_flight (flush f);
  same = λ q h. flight_turned flush ns f k o q h;
}

cargo_chosen : (f : ℕ) (x : Identity) (qs : List Accepted)
    → filter (is_cargo f x) qs ≡ chosen (is_in_flight f) x qs
cargo_chosen f x [] = refl
cargo_chosen f x (a ∷ qs) =
    ap (λ us. cond (is_in_flight f a.place && is_of x a) (a ∷ us) us) (cargo_chosen f x qs)
    ∙ (ap (λ v. cond v (a ∷ chosen (is_in_flight f) x qs) (chosen (is_in_flight f) x qs))
    (turn (is_in_flight f a.place) (is_of x a))
    ∙ sym (chosen_first (is_in_flight f) x a qs))
  where
    turn : (v w : Bool) → (v && w) ≡ (w && v)
    turn true true = refl
    turn true false = refl
    turn false true = refl
    turn false false = refl

weighed : (E F : History) → StandAlike E F → (x : Identity)
    → Weigh (row_length x.kind) (chosen is_home x (points E)) (chosen is_home x (points F))
weighed E F h x = record { span = h.spans x; row = h.sums x }

flying_on : (batch flush : ℕ → ℕ) (E F G : History) → Parallel batch flush E F G → StandAlike E F
    → (f : ℕ) (x : Identity) → is_one_of f (numbers flush_number G) ≡ true
    → merged x (filter (is_cargo (flush f) x) (points (F then renumbered batch flush G)))
    ≡ merged x (filter (is_cargo f x) (points (E then G)))
flying_on batch flush E F G p h f x o =
    ap (merged x) (cargo_chosen (flush f) x (points (F then renumbered batch flush G)))
    ∙ (weigh_merged x (chosen (is_in_flight f) x (points (E then G)))
    (chosen (is_in_flight (flush f)) x (points (F then renumbered batch flush G)))
    (chosen_weigh batch flush E F G p (is_in_flight f) (is_in_flight (flush f))
    (cargo_match flush (numbers flush_number G) f p.flushes o) x (weighed E F h x))
    ∙ sym (ap (merged x) (cargo_chosen f x (points (E then G)))))

-- who is quarantined

held_other : (s t : List ℕ) (xs : List (List ℕ))
    → is_held s (filter (is_other_sender t) xs) ≡ (not (same_sender s t) && is_held s xs)
held_other s t [] =
    elim (same_sender s t) as (λ v. false ≡ (not v && false)) [ true ↦ refl | false ↦ refl ]
held_other s t (u ∷ xs) =
    both (same_sender u t) (same_sender u s) (same_sender s t) refl refl refl (held_other s t xs)
  where
    both : (v w z : Bool) → same_sender u t ≡ v → same_sender u s ≡ w → same_sender s t ≡ z
        → is_held s (filter (is_other_sender t) xs) ≡ (not (same_sender s t) && is_held s xs)
        → is_held s (filter (is_other_sender t) (u ∷ xs))
        ≡ (not (same_sender s t) && is_held s (u ∷ xs))
    both true true true e g i r = rw (e, g, i) (rw i at r)
    both true true false e g i r = absurd
        (let q : true ≡ false = sym e ∙ (ap (λ y. same_sender y t) (same_sender-exact u s g) ∙ i) in
        cc)
    both true false z e g i r = rw (e, g) r
    both false true true e g i r = absurd
        (let q : false ≡ true = sym e ∙ (ap (λ y. same_sender y t) (same_sender-exact u s g) ∙ i) in
        cc)
    both false true false e g i r = rw (e, i) (rw g refl)
    both false false z e g i r = rw e (rw g r)

pub held_next : (e : Event) (xs ys : List (List ℕ)) → ((s : List ℕ) → is_held s ys ≡ is_held s xs)
    → (s : List ℕ) → is_held s (held_after e ys) ≡ is_held s (held_after e xs)
held_next (Quarantine t) xs ys h s =
    list_any-append (λ u. same_sender u s) ys (t ∷ [])
    ∙ (ap (λ v. v || (same_sender t s || false)) (h s)
    ∙ sym (list_any-append (λ u. same_sender u s) xs (t ∷ [])))
held_next (Lift t) xs ys h s =
    held_other s t ys
    ∙ (ap (λ v. not (same_sender s t) && v) (h s) ∙ sym (held_other s t xs))
held_next e xs ys h s = h s

held_on : (batch flush : ℕ → ℕ) (E F G : History)
    → ((s : List ℕ) → is_held s (held_senders F) ≡ is_held s (held_senders E)) → (s : List ℕ)
    → is_held s (held_senders (F then renumbered batch flush G))
    ≡ is_held s (held_senders (E then G))
held_on batch flush E F (Opened O) h s = h s
held_on batch flush E F (G ▸ Quarantine t) h s =
    held_next (Quarantine t) (held_senders (E then G))
    (held_senders (F then renumbered batch flush G)) (held_on batch flush E F G h) s
held_on batch flush E F (G ▸ Lift t) h s =
    held_next (Lift t) (held_senders (E then G)) (held_senders (F then renumbered batch flush G))
    (held_on batch flush E F G h) s
held_on batch flush E F (G ▸ e) h s = held_on batch flush E F G h s

-- they still stand alike

alike_on : (batch flush : ℕ → ℕ) (E F G : History) → Parallel batch flush E F G → IsLegal E
    → IsLegal F → StandAlike E F → StandAlike (E then G) (F then renumbered batch flush G)
alike_on batch flush E F G p l m h = record {
  owners = λ x. owner_on batch flush E F G p x (alike_known E F l m x (h.frontiers x)) (h.owners x);
  frontiers = λ x. frontier_on batch flush E F G p x (h.frontiers x);
  sums = λ x. (chosen_weigh batch flush E F G p is_home is_home
      (home_match flush (numbers flush_number G)) x (weighed E F h x)).row;
  spans = λ x. (chosen_weigh batch flush E F G p is_home is_home
      (home_match flush (numbers flush_number G)) x (weighed E F h x)).span;
  held = held_on batch flush E F G h.held;
}

-- what is picked

ascending_same : (xs ys : List Identity) → is_ascending xs ≡ true → is_ascending ys ≡ true
    → ((z : Identity) → is_among z xs ≡ is_among z ys) → xs ≡ ys
ascending_same [] [] h k e = refl
ascending_same [] (y ∷ ys) h k e =
    absurd (let q : false ≡ true =
    e y ∙ or_left (same_series y y) (is_among y ys) (same_series-refl y) in cc)
ascending_same (x ∷ xs) [] h k e =
    absurd (let q : false ≡ true =
    sym (e x) ∙ or_left (same_series x x) (is_among x xs) (same_series-refl x) in cc)
ascending_same (x ∷ xs) (y ∷ ys) h k e =
    subst (λ z. x ∷ xs ≡ z ∷ ys) first (ap (λ zs. x ∷ zs) (ascending_same xs ys p.1 q.1 rest))
  where
    p : (list_all (series_before x) xs ≡ true) × (is_ascending xs ≡ true)
    p = and_parts (list_all (series_before x) xs) (is_ascending xs) h

    q : (list_all (series_before y) ys ≡ true) × (is_ascending ys ≡ true)
    q = and_parts (list_all (series_before y) ys) (is_ascending ys) k

    first : x ≡ y
    first = elim (or_cases (same_series x y) (is_among x ys)
        (sym (e x) ∙ or_left (same_series x x) (is_among x xs) (same_series-refl x))) [
          | inl m ↦ same_series-exact x y m
          | inr m ↦ elim (or_cases (same_series y x) (is_among y xs)
              (e y ∙ or_left (same_series y y) (is_among y ys) (same_series-refl y))) [
                | inl n ↦ sym (same_series-exact y x n)
                | inr n ↦ absurd (let w : true ≡ false =
                    sym (before_of x y xs p.0 n) ∙ not_back x y (before_of y x ys q.0 m) in cc)
              ]
        ]

    rest : (z : Identity) → is_among z xs ≡ is_among z ys
    rest z = both (same_series z x) refl
      where
        both : (v : Bool) → same_series z x ≡ v → is_among z xs ≡ is_among z ys
        both true i =
            let one = same_series-exact z x i in
            ap (λ w. is_among w xs) one ∙ (not_among x xs p.0
            ∙ sym (ap (λ w. is_among w ys) (one ∙ first) ∙ not_among y ys q.0))
        both false i =
            sym (ap (λ v. v || is_among z xs) i)
            ∙ (e z ∙ ap (λ v. v || is_among z ys) (ap (same_series z) (sym first) ∙ i))

in_order_same : (qs rs : List Accepted)
    → ((x : Identity) → list_any (is_of x) qs ≡ list_any (is_of x) rs)
    → series_in_order qs ≡ series_in_order rs
in_order_same qs rs e = ascending_same (series_in_order qs) (series_in_order rs) (series_ascend qs)
    (series_ascend rs) (λ z. among_in_order z qs ∙ (e z ∙ sym (among_in_order z rs)))

has_span : Option Interval → Bool
has_span None = false
has_span (Some span) = true

abbrev is_free : Identity → List ℕ → List Flight → List (List ℕ) → Bool
is_free x s live held = not (is_in_live live x) && not (is_held s held)

-- whether a series has a point that may be taken lies in what is pending of it
eligible_any : (x : Identity) (s : List ℕ) (live : List Flight) (held : List (List ℕ))
    (qs : List Accepted) → list_all (is_by_or_other x s) qs ≡ true
    → list_any (is_of x) (filter (is_eligible live held) qs)
    ≡ (has_span (hull (chosen is_home x qs)) && is_free x s live held)
unfolding has_span
eligible_any x s live held [] h = refl
eligible_any x s live held (a ∷ qs) h =
    both (is_of x a) (is_home a.place) refl refl (eligible_any x s live held qs l.1)
  where
    l : (is_by_or_other x s a ≡ true) × (list_all (is_by_or_other x s) qs ≡ true)
    l = and_parts (is_by_or_other x s a) (list_all (is_by_or_other x s) qs) h

    rest : Bool
    rest = list_any (is_of x) (filter (is_eligible live held) qs)

    other : (v : Bool) → is_of x a ≡ false
        → list_any (is_of x) (cond v (a ∷ filter (is_eligible live held) qs)
        (filter (is_eligible live held) qs))
        ≡ list_any (is_of x) (filter (is_eligible live held) qs)
    other true e = ap (λ v. v || list_any (is_of x) (filter (is_eligible live held) qs)) e
    other false e = refl

    mine : is_of x a ≡ true → is_home a.place ≡ true
        → is_eligible live held a ≡ is_free x s live held
    mine e g =
        let c : (not true || same_sender a.sender s) ≡ true = rw e at l.0 in
        ap (λ v. v && (not (is_in_live live a.point.series) && not (is_held a.sender held))) g
        ∙ (ap (λ y. not (is_in_live live y) && not (is_held a.sender held))
        (same_series-exact a.point.series x e)
        ∙ ap (λ t. not (is_in_live live x) && not (is_held t held))
        (same_sender-exact a.sender s c))

    found : (v w : Bool) → is_of x a ≡ true
        → list_any (is_of x) (filter (is_eligible live held) qs) ≡ (w && v)
        → list_any (is_of x) (cond v (a ∷ filter (is_eligible live held) qs)
        (filter (is_eligible live held) qs)) ≡ v
    found true w e r = ap (λ v. v || list_any (is_of x) (filter (is_eligible live held) qs)) e
    found false true e r = r
    found false false e r = r

    both : (v w : Bool) → is_of x a ≡ v → is_home a.place ≡ w
        → list_any (is_of x) (filter (is_eligible live held) qs)
        ≡ (has_span (hull (chosen is_home x qs)) && is_free x s live held)
        → list_any (is_of x) (filter (is_eligible live held) (a ∷ qs))
        ≡ (has_span (hull (chosen is_home x (a ∷ qs))) && is_free x s live held)
    both false w e g r = other (is_eligible live held a) e
        ∙ (r ∙ sym (ap (λ us. has_span (hull us) && is_free x s live held)
        (chosen_first is_home x a qs ∙ ap
        (λ v. cond (v && is_home a.place) (a ∷ chosen is_home x qs) (chosen is_home x qs))
        e)))
    both true true e g r =
        ap (λ v. list_any (is_of x) (cond v (a ∷ filter (is_eligible live held) qs)
        (filter (is_eligible live held) qs))) (mine e g)
        ∙ (found (is_free x s live held) (has_span (hull (chosen is_home x qs))) e r
        ∙ sym (ap (λ us. has_span (hull us) && is_free x s live held)
        (chosen_first is_home x a qs ∙ (ap
        (λ v. cond (v && is_home a.place) (a ∷ chosen is_home x qs) (chosen is_home x qs)) e
        ∙ ap (λ v. cond v (a ∷ chosen is_home x qs) (chosen is_home x qs)) g))))
    both true false e g r =
        ap (λ v. list_any (is_of x) (cond
        (v && (not (is_in_live live a.point.series) && not (is_held a.sender held)))
        (a ∷ filter (is_eligible live held) qs) (filter (is_eligible live held) qs))) g
        ∙ (r ∙ sym (ap (λ us. has_span (hull us) && is_free x s live held)
        (chosen_first is_home x a qs ∙ (ap
        (λ v. cond (v && is_home a.place) (a ∷ chosen is_home x qs) (chosen is_home x qs)) e
        ∙ ap (λ v. cond v (a ∷ chosen is_home x qs) (chosen is_home x qs)) g))))

pub own_or_other : (x : Identity) (qs : List Accepted) → OneOwner qs
    → list_all (is_by_or_other x (owner x qs)) qs ≡ true
own_or_other x qs o = both (list_any (is_of x) qs) refl
  where
    both : (v : Bool) → list_any (is_of x) qs ≡ v
        → list_all (is_by_or_other x (owner x qs)) qs ≡ true
    both true e = all_own x qs o e
    both false e = all_weaker (λ a. not (is_of x a)) (is_by_or_other x (owner x qs))
        (λ a n. or_left (not (is_of x a)) (same_sender a.sender (owner x qs)) n) qs
        (any_none (is_of x) qs e)

eligible_same : (qs rs : List Accepted) (lives others : List Flight) (helds holds : List (List ℕ))
    → OneOwner qs → OneOwner rs → ((x : Identity) → is_in_live others x ≡ is_in_live lives x)
    → ((s : List ℕ) → is_held s holds ≡ is_held s helds)
    → ((x : Identity) → owner x rs ≡ owner x qs)
    → ((x : Identity) → hull (chosen is_home x rs) ≡ hull (chosen is_home x qs))
    → (max : ℕ)
    → first_eligible rs others holds max ≡ first_eligible qs lives helds max
eligible_same qs rs lives others helds holds o n e h w s max =
    ap (take max) (in_order_same (filter (is_eligible others holds) rs)
    (filter (is_eligible lives helds) qs) (λ x.
    eligible_any x (owner x rs) others holds rs (own_or_other x rs n)
    ∙ (ap (λ i. has_span i && is_free x (owner x rs) others holds) (s x)
    ∙ (ap (λ t. has_span (hull (chosen is_home x qs)) && is_free x t others holds) (w x)
    ∙ (ap (λ v. has_span (hull (chosen is_home x qs))
    && (not v && not (is_held (owner x qs) holds))) (e x)
    ∙ (ap (λ v. has_span (hull (chosen is_home x qs)) && (not (is_in_live lives x) && not v))
    (h (owner x qs))
    ∙ sym (eligible_any x (owner x qs) lives helds qs (own_or_other x qs o))))))))

pick_on : (batch flush : ℕ → ℕ) (E F G : History) → Parallel batch flush E F G → IsLegal (E then G)
    → IsLegal (F then renumbered batch flush G)
    → StandAlike (E then G) (F then renumbered batch flush G) → (max : ℕ)
    → pick (F then renumbered batch flush G) max ≡ pick (E then G) max
pick_on batch flush E F G p l m h max =
    eligible_same (points (E then G)) (points (F then renumbered batch flush G))
    (live_flushes (E then G)) (live_flushes (F then renumbered batch flush G))
    (held_senders (E then G)) (held_senders (F then renumbered batch flush G))
    (one_owner (E then G) l) (one_owner (F then renumbered batch flush G) m)
    (λ x. ap (λ ls. is_in_live ls x)
    (live_same batch flush E F G p.still p.still_too p.flushes)
    ∙ in_live_same flush x (live_flushes (E then G))) h.held h.owners
    h.spans max

-- what flushes send

-- all that is known of the two sides at the end of G
pub record Going (batch flush : ℕ → ℕ) (E F G : History) : Type 0 where
  pub alike : StandAlike E F
  pub still : live_flushes E ≡ []
  pub ends : EndsOwn E G
  pub calm_too : IsCalm F
  pub batches : KeepsApart batch (numbers batch_number G)
  pub flushes : KeepsApart flush (numbers flush_number G)
  pub legal : IsLegal (E then G)
  pub legal_too : IsLegal (F then renumbered batch flush G)

pub undoes_ended : (E G : History) → EndsOwn E G → UndoesOwn E G
undoes_ended E (Opened O) n = tt
undoes_ended E (G ▸ Undo b) n = (n.0, undoes_ended E G n.1)
undoes_ended E (G ▸ Confirm b) n = undoes_ended E G n.1
undoes_ended E (G ▸ e) n = undoes_ended E G n

pub ends_before : (E G : History) (e : Event) → EndsOwn E (G ▸ e) → EndsOwn E G
ends_before E G (Undo b) n = n.1
ends_before E G (Confirm b) n = n.1
ends_before E G e n = n

-- where no batch was open before, whatever is legal leaves them alone
pub ends_calm : (E G : History) → open_batches E ≡ [] → IsLegal (E then G) → EndsOwn E G
ends_calm E (Opened O) o l = tt
ends_calm E (G ▸ Undo b) o l = (open_own E G o l.0 b l.1.opened, ends_calm E G o l.0)
ends_calm E (G ▸ Confirm b) o l = (open_own E G o l.0 b l.1, ends_calm E G o l.0)
ends_calm E (G ▸ e) o l = ends_calm E G o l.0

pub parallel : (batch flush : ℕ → ℕ) (E F G : History) → Going batch flush E F G
    → Parallel batch flush E F G
parallel batch flush E F G g = record {
  own = undoes_ended E G g.ends;
  own_too = undoes_own F (renumbered batch flush G) g.calm_too.batches g.legal_too;
  still = g.still;
  still_too = g.calm_too.live;
  batches = g.batches;
  flushes = g.flushes;
}

pub gone : (batch flush : ℕ → ℕ) (E F G : History) → Going batch flush E F G
    → StandAlike (E then G) (F then renumbered batch flush G)
gone batch flush E F G g = alike_on batch flush E F G (parallel batch flush E F G g)
    (legal_before G E g.legal) (legal_before (renumbered batch flush G) F g.legal_too) g.alike

before : (batch flush : ℕ → ℕ) (E F G : History) (e : Event) → Going batch flush E F (G ▸ e)
    → Going batch flush E F G
before batch flush E F G e g = record {
  alike = g.alike;
  still = g.still;
  ends = ends_before E G e g.ends;
  calm_too = g.calm_too;
  batches = apart_last batch (batch_number e) (numbers batch_number G) g.batches;
  flushes = apart_last flush (flush_number e) (numbers flush_number G) g.flushes;
  legal = g.legal.0;
  legal_too = g.legal_too.0;
}

sent_on : (batch flush : ℕ → ℕ) (E F G : History) → Going batch flush E F G → (f : ℕ)
    → is_taken_in G f ≡ true
    → flush_points (F then renumbered batch flush G) (flush f) ≡ flush_points (E then G) f
sent_on batch flush E F (Opened O) c f t = absurd (let q : false ≡ true = t in cc)
sent_on batch flush E F (G ▸ Take g series) c f t =
    both (g == f) refl (sent_on batch flush E F G (before batch flush E F G (Take g series) c) f)
  where
    one : is_one_of f (g ∷ numbers flush_number G) ≡ true
    one = taken_number (G ▸ Take g series) f t

    number : (flush g == flush f) ≡ (g == f)
    number = same_number flush (g ∷ numbers flush_number G) g f c.flushes
        (first_one g (numbers flush_number G)) one

    both : (v : Bool) → (g == f) ≡ v → (is_taken_in G f ≡ true
        → flush_points (F then renumbered batch flush G) (flush f) ≡ flush_points (E then G) f)
        → flush_points ((F then renumbered batch flush G) ▸ Take (flush g) series) (flush f)
        ≡ flush_points ((E then G) ▸ Take g series) f
    both true e r =
        flush_at (F then renumbered batch flush G) (flush f) (flush g) series (number ∙ e)
        ∙ (ap present (map_each (λ x. merged x
        (filter (is_cargo (flush f) x)
        (points ((F then renumbered batch flush G) ▸ Take (flush g) series))))
        (λ x. merged x (filter (is_cargo f x) (points ((E then G) ▸ Take g series))))
        (λ x. flying_on batch flush E F (G ▸ Take g series)
        (parallel batch flush E F (G ▸ Take g series) c) c.alike f x one)
        series)
        ∙ sym (flush_at (E then G) f g series e))
    both false e r =
        let t2 : is_taken_in G f ≡ true = rw e at t in
        flush_past (F then renumbered batch flush G) (flush f) (flush g) series (number ∙ e)
        ∙ (r t2 ∙ sym (flush_past (E then G) f g series e))
sent_on batch flush E F (G ▸ Admit b body) c f t =
    sent_on batch flush E F G (before batch flush E F G (Admit b body) c) f t
sent_on batch flush E F (G ▸ Undo b) c f t =
    sent_on batch flush E F G (before batch flush E F G (Undo b) c) f t
sent_on batch flush E F (G ▸ Confirm b) c f t =
    sent_on batch flush E F G (before batch flush E F G (Confirm b) c) f t
sent_on batch flush E F (G ▸ Settle g) c f t =
    sent_on batch flush E F G (before batch flush E F G (Settle g) c) f t
sent_on batch flush E F (G ▸ Drop g) c f t =
    sent_on batch flush E F G (before batch flush E F G (Drop g) c) f t
sent_on batch flush E F (G ▸ GiveBack g) c f t =
    sent_on batch flush E F G (before batch flush E F G (GiveBack g) c) f t
sent_on batch flush E F (G ▸ Quarantine s) c f t =
    sent_on batch flush E F G (before batch flush E F G (Quarantine s) c) f t
sent_on batch flush E F (G ▸ Lift s) c f t =
    sent_on batch flush E F G (before batch flush E F G (Lift s) c) f t

stands_on : (batch flush : ℕ → ℕ) (E F G : History) → Going batch flush E F G
    → StandOn E F G batch flush
stands_on batch flush E F G g = record {
  alike = gone batch flush E F G g;
  flying = flying_on batch flush E F G (parallel batch flush E F G g) g.alike;
  live = live_same batch flush E F G g.still g.calm_too.live g.flushes;
  choice = pick_on batch flush E F G (parallel batch flush E F G g) g.legal g.legal_too
      (gone batch flush E F G g);
  sent = sent_on batch flush E F G g;
}

-- the same batches are open

batch_later : (b : ℕ) (ns : List ℕ) (cs : List ℕ) → list_all (λ c. is_one_of c ns) cs ≡ true
    → list_all (λ c. is_one_of c (b ∷ ns)) cs ≡ true
batch_later b ns cs h = all_weaker (λ c. is_one_of c ns) (λ c. is_one_of c (b ∷ ns))
    (λ c k. any_append_right (λ n. n == c) (b ∷ []) ns k) cs h

-- those that G has opened and not ended
abbrev pub opened : History → List ℕ
opened (Opened O) = []
opened (G ▸ e) = open_after e (opened G)

opened_numbers : (G : History)
    → list_all (λ c. is_one_of c (numbers batch_number G)) (opened G) ≡ true
opened_numbers (Opened O) = refl
opened_numbers (G ▸ Admit b body) =
    all_append (λ c. is_one_of c (b ∷ numbers batch_number G)) (opened G) (b ∷ [])
    (batch_later b (numbers batch_number G) (opened G) (opened_numbers G))
    (and_from (is_one_of b (b ∷ numbers batch_number G)) true
    (first_one b (numbers batch_number G)) refl)
opened_numbers (G ▸ Undo b) = all_filter (λ c. is_one_of c (b ∷ numbers batch_number G))
    (is_another b) (opened G) (batch_later b (numbers batch_number G) (opened G) (opened_numbers G))
opened_numbers (G ▸ Confirm b) = all_filter (λ c. is_one_of c (b ∷ numbers batch_number G))
    (is_another b) (opened G) (batch_later b (numbers batch_number G) (opened G) (opened_numbers G))
opened_numbers (G ▸ v) = opened_numbers G

other_batches : (batch : ℕ → ℕ) (b : ℕ) (ns : List ℕ) → KeepsApart batch (b ∷ ns) → (cs : List ℕ)
    → list_all (λ c. is_one_of c ns) cs ≡ true
    → filter (is_another (batch b)) (map batch cs) ≡ map batch (filter (is_another b) cs)
other_batches batch b ns k cs h = filter_where (λ c. is_one_of c ns) (is_another (batch b))
    (is_another b) batch (λ c i. ap not
    (same_number batch (b ∷ ns) c b k (any_append_right (λ n. n == c) (b ∷ []) ns i)
    (first_one b ns))) cs h

opened_turned : (batch flush : ℕ → ℕ) (G : History) → KeepsApart batch (numbers batch_number G)
    → opened (renumbered batch flush G) ≡ map batch (opened G)
opened_turned batch flush (Opened O) k = refl
opened_turned batch flush (G ▸ Admit b body) k =
    ap (λ cs. cs ++ batch b ∷ [])
    (opened_turned batch flush G (apart_last batch (b ∷ []) (numbers batch_number G) k))
    ∙ sym (map-append batch (opened G) (b ∷ []))
opened_turned batch flush (G ▸ Undo b) k =
    ap (filter (is_another (batch b)))
    (opened_turned batch flush G (apart_last batch (b ∷ []) (numbers batch_number G) k))
    ∙ other_batches batch b (numbers batch_number G) k (opened G) (opened_numbers G)
opened_turned batch flush (G ▸ Confirm b) k =
    ap (filter (is_another (batch b)))
    (opened_turned batch flush G (apart_last batch (b ∷ []) (numbers batch_number G) k))
    ∙ other_batches batch b (numbers batch_number G) k (opened G) (opened_numbers G)
opened_turned batch flush (G ▸ v) k = opened_turned batch flush G k

without_old : (E : History) (b : ℕ) (cs : List ℕ) → IsNewBatch b E
    → filter (is_another b) (open_batches E ++ cs) ≡ open_batches E ++ filter (is_another b) cs
without_old E b cs n = filter-append (is_another b) (open_batches E) cs
    ∙ ap (λ ds. ds ++ filter (is_another b) cs)
    (filter_keeps (is_another b) (open_batches E) (new_batch b E n))

pub open_parts : (E G : History) → EndsOwn E G
    → open_batches (E then G) ≡ open_batches E ++ opened G
open_parts E (Opened O) n = sym (append-nil (open_batches E))
open_parts E (G ▸ Admit b body) n =
    ap (λ cs. cs ++ b ∷ []) (open_parts E G n) ∙ append_assoc (open_batches E) (opened G) (b ∷ [])
open_parts E (G ▸ Undo b) n =
    ap (filter (is_another b)) (open_parts E G n.1) ∙ without_old E b (opened G) n.0
open_parts E (G ▸ Confirm b) n =
    ap (filter (is_another b)) (open_parts E G n.1) ∙ without_old E b (opened G) n.0
open_parts E (G ▸ v) n = open_parts E G n

open_calm : (F G : History) → open_batches F ≡ [] → open_batches (F then G) ≡ opened G
open_calm F (Opened O) e = e
open_calm F (G ▸ v) e = ap (open_after v) (open_calm F G e)

pub open_on : (batch flush : ℕ → ℕ) (F G : History) → open_batches F ≡ []
    → KeepsApart batch (numbers batch_number G)
    → open_batches (F then renumbered batch flush G) ≡ map batch (opened G)
open_on batch flush F G e k =
    open_calm F (renumbered batch flush G) e ∙ opened_turned batch flush G k

-- where none was open before, none is after where none is after the other
pub none_open_on : (batch flush : ℕ → ℕ) (E F G : History) → open_batches E ≡ []
    → open_batches F ≡ [] → KeepsApart batch (numbers batch_number G) → open_batches (E then G) ≡ []
    → open_batches (F then renumbered batch flush G) ≡ []
none_open_on batch flush E F G d e k o =
    open_on batch flush F G e k ∙ ap (map batch) (sym (open_calm E G d) ∙ o)

opened_too : (E G : History) (b : ℕ) → EndsOwn E G → IsNewBatch b E
    → is_open b (open_batches (E then G)) ≡ true → is_open b (opened G) ≡ true
opened_too E G b n f h = elim (or_cases (is_open b (open_batches E)) (is_open b (opened G))
    (sym (ap (is_open b) (open_parts E G n)
    ∙ list_any-append (λ c. c == b) (open_batches E) (opened G)) ∙ h)) [
      | inl e ↦ absurd (any_all_not (λ c. c == b) (open_batches E) e (new_batch b E f))
      | inr e ↦ e
    ]

still_open : (batch : ℕ → ℕ) (b : ℕ) (cs : List ℕ) → is_open b cs ≡ true
    → is_open (batch b) (map batch cs) ≡ true
still_open batch b [] h = h
still_open batch b (c ∷ cs) h = elim (or_cases (c == b) (is_open b cs) h) [
  | inl e ↦ or_left (batch c == batch b) (is_open (batch b) (map batch cs))
      (eq-eqb (batch c) (batch b) (ap batch (eqb-true c b e)))
  | inr e ↦
      or_right (batch c == batch b) (is_open (batch b) (map batch cs)) (still_open batch b cs e)
]

still_live : (flush : ℕ → ℕ) (f : ℕ) (ls : List Flight) → is_live f ls ≡ true
    → is_live (flush f) (map (renumbered_flight flush) ls) ≡ true
still_live flush f [] h = h
still_live flush f (l ∷ ls) h = elim (or_cases (l.number == f) (is_live f ls) h) [
  | inl e ↦ or_left (flush l.number == flush f)
      (is_live (flush f) (map (renumbered_flight flush) ls))
      (eq-eqb (flush l.number) (flush f) (ap flush (eqb-true l.number f e)))
  | inr e ↦ or_right (flush l.number == flush f)
      (is_live (flush f) (map (renumbered_flight flush) ls)) (still_live flush f ls e)
]

-- order, and how many series

known_on : (E F : History) → IsLegal E → IsLegal F → StandAlike E F → (x : Identity)
    → list_any (is_of x) (points F) ≡ list_any (is_of x) (points E)
known_on E F l m h x = alike_known E F l m x (h.frontiers x)

clearer_on : (E F : History) → IsLegal E → IsLegal F → StandAlike E F
    → Clearer (points E) (points F)
clearer_on E F l m h =
    clearer_known (points E) (points F) (one_owner F m) (known_on E F l m h) h.owners h.frontiers

admitted_series : (t : Identity → Bool) (b c : ℕ) (s : List ℕ) (ps : List DataPoint)
    → list_all (λ a. t a.point.series) (map (admitted b s) ps) ≡ true
    → list_all (λ a. t a.point.series) (map (admitted c s) ps) ≡ true
admitted_series t b c s [] h = refl
admitted_series t b c s (p ∷ ps) h =
    let l = and_parts (t p.series) (list_all (λ a. t a.point.series) (map (admitted b s) ps)) h in
    and_from (t p.series) (list_all (λ a. t a.point.series) (map (admitted c s) ps)) l.0
    (admitted_series t b c s ps l.1)

pub no_other_on : (E F : History) (b c : ℕ) (body : Batch)
    → ((x : Identity) → list_any (is_of x) (points F) ≡ list_any (is_of x) (points E))
    → NoOther (points (F ▸ Admit c body)) (points (E ▸ Admit b body))
no_other_on E F b c body known = record {
  all = λ t k. all_append (λ a. t a.point.series) (points F)
      (map (admitted c body.sender) body.points)
      ((known_no_other (points E) (points F) known).all t
      (all_first (λ a. t a.point.series) (points E) (map (admitted b body.sender) body.points)
      k))
      (admitted_series t b c body.sender body.points
      (all_last (λ a. t a.point.series) (points E) (map (admitted b body.sender) body.points)
      k));
}

-- each point's sender is the owner of its series

senders_by : (w : Identity → List ℕ) (qs : List Accepted)
    → ((x : Identity) → list_all (is_by_or_other x (w x)) qs ≡ true)
    → list_all (λ a. same_sender a.sender (w a.point.series)) qs ≡ true
senders_by w [] h = refl
senders_by w (a ∷ qs) h =
    let c = (and_parts (is_by_or_other a.point.series (w a.point.series) a)
    (list_all (is_by_or_other a.point.series (w a.point.series)) qs) (h a.point.series)).0 in
    let d : (not true || same_sender a.sender (w a.point.series)) ≡ true =
    rw (same_series-refl a.point.series) at c in
    and_from (same_sender a.sender (w a.point.series))
    (list_all (λ a. same_sender a.sender (w a.point.series)) qs) d
    (senders_by w qs (λ x. (and_parts (is_by_or_other x (w x) a)
    (list_all (is_by_or_other x (w x)) qs) (h x)).1))

senders_own : (E : History) → IsLegal E
    → list_all (λ a. same_sender a.sender (owner a.point.series (points E))) (points E) ≡ true
senders_own E l = senders_by (λ x. owner x (points E)) (points E)
    (λ x. own_or_other x (points E) (one_owner E l))

free_on : (E F : History) (series : List Identity) → IsLegal E → IsLegal F → StandAlike E F
    → list_all (λ a. not (is_among a.point.series series && is_held a.sender (held_senders E)))
    (points E) ≡ true → list_all (λ a. not
    (is_among a.point.series series && is_held a.sender (held_senders F))) (points F) ≡ true
free_on E F series l m h k =
    all_both (λ a. same_sender a.sender (owner a.point.series (points F)))
    (λ a. free a.point.series)
    (λ a. not (is_among a.point.series series && is_held a.sender (held_senders F)))
    (λ a i j. ap (λ s. not (is_among a.point.series series && is_held s (held_senders F)))
    (same_sender-exact a.sender (owner a.point.series (points F)) i ∙ h.owners a.point.series)
    ∙ (ap (λ v. not (is_among a.point.series series && v))
    (h.held (owner a.point.series (points E))) ∙ j))
    (points F) (senders_own F m)
    ((known_no_other (points E) (points F) (known_on E F l m h)).all free
    (all_both (λ a. same_sender a.sender (owner a.point.series (points E)))
    (λ a. not (is_among a.point.series series && is_held a.sender (held_senders E)))
    (λ a. free a.point.series)
    (λ a i j. ap (λ s. not (is_among a.point.series series && is_held s (held_senders E)))
    (sym (same_sender-exact a.sender (owner a.point.series (points E)) i)) ∙ j)
    (points E) (senders_own E l) k))
  where
    free : Identity → Bool
    free x = not (is_among x series && is_held (owner x (points E)) (held_senders E))

-- as many senders are quarantined

pub once_le : (xs ys : List (List ℕ)) → are_once xs ≡ true
    → ((s : List ℕ) → is_held s xs ≡ true → is_held s ys ≡ true) → length xs ≤ length ys
once_le [] ys h k = omega arith
once_le (t ∷ xs) ys h k =
    let p = and_parts (list_all (λ u. not (same_sender u t)) xs) (are_once xs) h in
    omega (
      arith,
      once_le xs (filter (is_other_sender t) ys) p.1
          (λ s m. still p.0 s m (same_sender s t) refl),
      length_without (λ u. same_sender u t)
          (is_other_sender t) (λ u m. ap not m) ys
          (k t (or_left (same_sender t t) (is_held t xs) (same_sender-refl t))),
    )
  where
    still : list_all (λ u. not (same_sender u t)) xs ≡ true → (s : List ℕ) → is_held s xs ≡ true
        → (v : Bool) → same_sender s t ≡ v → is_held s (filter (is_other_sender t) ys) ≡ true
    still a s m true e = absurd (both_at (λ u. same_sender u s) (λ u. not (same_sender u t)) ⊥
        (λ u i j. (let q : same_sender u t ≡ true =
        ap (λ w. same_sender w t) (same_sender-exact u s i) ∙ e in
        let n : not true ≡ true = rw q at j in cc)) xs m a)
    still a s m false e = held_other s t ys
        ∙ (ap (λ v. not v && is_held s ys) e ∙ k s (or_right (same_sender t s) (is_held s xs) m))

-- whatever may come next after E and G may come after F and G

may_admit_on : (batch flush : ℕ → ℕ) (E F G : History) (b : ℕ) (body : Batch)
    → Going batch flush E F G → MayAdmit (E then G) b body
    → Suits (F then renumbered batch flush G) (Admit (batch b) body)
    → MayAdmit (F then renumbered batch flush G) (batch b) body
may_admit_on batch flush E F G b body g m s = record {
  fresh = s.0;
  some = m.some;
  made = m.made;
  free = h.held body.sender ∙ m.free;
  few_open = omega (
    arith,
    m.few_open,
    ap length
        (open_on batch flush F G g.calm_too.batches g.batches),
    length-map (opened G) batch,
    ap length
        (open_parts E G g.ends),
    length-append (open_batches E) (opened G),
  );
  room = s.1;
  in_order = sym (turn_order body.sender body.points (points (F then renumbered batch flush G)))
      ∙ turn_clearer (map (admitted 0 body.sender) body.points) (points (E then G))
      (points (F then renumbered batch flush G))
      (clearer_on (E then G) (F then renumbered batch flush G) g.legal g.legal_too h)
      (turn_order body.sender body.points (points (E then G)) ∙ m.in_order);
  few_series = omega (
    arith,
    m.few_series,
    count_le
        (points ((F then renumbered batch flush G) ▸ Admit (batch b) body))
        (points ((E then G) ▸ Admit b body))
        (no_other_on (E then G) (F then renumbered batch flush G) b (batch b) body
        (known_on (E then G) (F then renumbered batch flush G) g.legal g.legal_too h)),
  );
  small = s.2;
}
  where
    h : StandAlike (E then G) (F then renumbered batch flush G)
    h = gone batch flush E F G g

may_undo_on : (batch flush : ℕ → ℕ) (E F G : History) (b : ℕ)
    → KeepsApart batch (b ∷ numbers batch_number G) → IsNewBatch b E → Going batch flush E F G
    → MayUndo (E then G) b → MayUndo (F then renumbered batch flush G) (batch b)
may_undo_on batch flush E F G b k n g m = record {
  opened = open_too;
  home = ap (is_batch_home (batch b)) (behind F (renumbered batch flush G) p.own_too)
      ∙ all_append test (moved (renumbered batch flush G) (points F))
      (news (renumbered batch flush G)) olds new;
}
  where
    p : Parallel batch flush E F G
    p = parallel batch flush E F G g

    test : Accepted → Bool
    test a = not (a.batch == batch b) || is_home a.place

    open_too : is_open (batch b) (open_batches (F then renumbered batch flush G)) ≡ true
    open_too = ap (is_open (batch b)) (open_on batch flush F G g.calm_too.batches g.batches)
        ∙ still_open batch b (opened G) (opened_too E G b g.ends n m.opened)

    olds : list_all test (moved (renumbered batch flush G) (points F)) ≡ true
    olds = all_weaker (is_of_other_batch (batch b)) test
        (λ a n. or_left (not (a.batch == batch b)) (is_home a.place) n)
        (moved (renumbered batch flush G) (points F))
        (other_moved (batch b) (renumbered batch flush G) (points F)
        (new_points (batch b) F (open_own F (renumbered batch flush G)
        g.calm_too.batches g.legal_too (batch b) open_too)))

    here : list_all (λ a. not (a.batch == b) || is_home a.place) (news G) ≡ true
    here = all_last (λ a. not (a.batch == b) || is_home a.place) (moved G (points E)) (news G)
        (sym (ap (is_batch_home b) (behind E G p.own)) ∙ m.home)

    same : (a : Accepted) → is_of_one (numbers batch_number G) a ≡ true
        → (not (a.batch == b) || is_home a.place) ≡ true → test (turned batch flush a) ≡ true
    same a i j =
        ap (λ v. not v || is_home (turned_place flush a.place))
        (same_number batch (b ∷ numbers batch_number G) a.batch b k
        (any_append_right (λ n. n == a.batch) (b ∷ []) (numbers batch_number G) i)
        (first_one b (numbers batch_number G)))
        ∙ (ap (λ v. not (a.batch == b) || v) (home_turned flush a.place) ∙ j)

    new : list_all test (news (renumbered batch flush G)) ≡ true
    new = ap (list_all test) (turned_news batch flush G g.batches g.flushes)
        ∙ all_map (λ a. test (turned batch flush a)) test (turned batch flush) (λ a q. q) (news G)
        (all_both (is_of_one (numbers batch_number G))
        (λ a. not (a.batch == b) || is_home a.place) (λ a. test (turned batch flush a)) same
        (news G) (news_one G) here)

may_take_on : (batch flush : ℕ → ℕ) (E F G : History) (f : ℕ) (series : List Identity)
    → Going batch flush E F G → MayTake (E then G) f series
    → Suits (F then renumbered batch flush G) (Take (flush f) series)
    → MayTake (F then renumbered batch flush G) (flush f) series
may_take_on batch flush E F G f series g m s = record {
  fresh = s.0;
  distinct = m.distinct;
  apart = all_weaker (λ x. not (is_in_live (live_flushes (E then G)) x))
      (λ x. not (is_in_live (live_flushes (F then renumbered batch flush G)) x))
      (λ x k. ap not (ap (λ ls. is_in_live ls x) lives
      ∙ in_live_same flush x (live_flushes (E then G))) ∙ k) series m.apart;
  free = free_on (E then G) (F then renumbered batch flush G) series g.legal g.legal_too
      (gone batch flush E F G g) m.free;
  few = omega (
    arith,
    m.few,
    ap length lives,
    length-map (live_flushes (E then G))
        (renumbered_flight flush),
  );
  room = s.1;
}
  where
    lives : live_flushes (F then renumbered batch flush G)
        ≡ map (renumbered_flight flush) (live_flushes (E then G))
    lives = live_same batch flush E F G g.still g.calm_too.live g.flushes

may_quarantine_on : (batch flush : ℕ → ℕ) (E F G : History) (s : List ℕ) → Going batch flush E F G
    → MayQuarantine (E then G) s → HasRoom (F then renumbered batch flush G)
    → MayQuarantine (F then renumbered batch flush G) s
may_quarantine_on batch flush E F G s g m r = record {
  free = (gone batch flush E F G g).held s ∙ m.free;
  few = omega (
    arith,
    m.few,
    once_le (held_senders (F then renumbered batch flush G))
        (held_senders (E then G)) (held_once (F then renumbered batch flush G) g.legal_too)
        (λ t i. sym ((gone batch flush E F G g).held t) ∙ i),
  );
  room = r;
}

live_on : (batch flush : ℕ → ℕ) (E F G : History) (f : ℕ) → Going batch flush E F G
    → is_live f (live_flushes (E then G)) ≡ true
    → is_live (flush f) (live_flushes (F then renumbered batch flush G)) ≡ true
live_on batch flush E F G f g h = ap (is_live (flush f))
    (live_same batch flush E F G g.still g.calm_too.live g.flushes)
    ∙ still_live flush f (live_flushes (E then G)) h

-- one event
pub step : (batch flush : ℕ → ℕ) (E F G : History) (e : Event)
    → KeepsApart batch (numbers batch_number (G ▸ e)) → EndsOwn E (G ▸ e) → Going batch flush E F G
    → Allowed (E then G) e → Suits (F then renumbered batch flush G)
    (renumbered_event batch flush e)
    → Allowed (F then renumbered batch flush G) (renumbered_event batch flush e)
step batch flush E F G (Admit b body) k n g a s = may_admit_on batch flush E F G b body g a s
step batch flush E F G (Undo b) k n g a s = may_undo_on batch flush E F G b k n.0 g a
step batch flush E F G (Confirm b) k n g a s =
    ap (is_open (batch b)) (open_on batch flush F G g.calm_too.batches g.batches)
    ∙ still_open batch b (opened G) (opened_too E G b g.ends n.0 a)
step batch flush E F G (Take f series) k n g a s = may_take_on batch flush E F G f series g a s
step batch flush E F G (Settle f) k n g a s = live_on batch flush E F G f g a
step batch flush E F G (Drop f) k n g a s = live_on batch flush E F G f g a
step batch flush E F G (GiveBack f) k n g a s = live_on batch flush E F G f g a
step batch flush E F G (Quarantine t) k n g a s = may_quarantine_on batch flush E F G t g a s
step batch flush E F G (Lift t) k n g a s = (gone batch flush E F G g).held t ∙ a

-- all events
legal_on : (batch flush : ℕ → ℕ) (E F G : History) → StandAlike E F → live_flushes E ≡ []
    → EndsOwn E G → IsCalm F → IsLegal F → KeepsApart batch (numbers batch_number G)
    → KeepsApart flush (numbers flush_number G) → IsLegal (E then G)
    → AllSuit F (renumbered batch flush G) → IsLegal (F then renumbered batch flush G)
legal_on batch flush E F (Opened O) h c n d m j k l s = m
legal_on batch flush E F (G ▸ e) h c n d m j k l s =
    let first = legal_on batch flush E F G h c (ends_before E G e n) d m
    (apart_last batch (batch_number e) (numbers batch_number G) j)
    (apart_last flush (flush_number e) (numbers flush_number G) k) l.0 s.0 in (
      first,
      step batch flush E F G e j n
          (record {
            alike = h;
            still = c;
            ends = ends_before E G e n;
            calm_too = d;
            batches =
                apart_last batch (batch_number e) (numbers batch_number G) j;
            flushes =
                apart_last flush (flush_number e) (numbers flush_number G) k;
            legal =
                l.0;
            legal_too = first;
          }) l.1 s.1,
    )

pub congruence_law : (E F G : History) (batch flush : ℕ → ℕ) → StandAlike E F → live_flushes E ≡ []
    → EndsOwn E G → IsCalm F → IsLegal F → KeepsApart batch (numbers batch_number G)
    → KeepsApart flush (numbers flush_number G) → IsLegal (E then G)
    → AllSuit F (renumbered batch flush G)
    → IsLegal (F then renumbered batch flush G) × StandOn E F G batch flush
congruence_law E F G batch flush h c n d m j k l s = (
  legal,
  stands_on batch flush E F G
      (record {
        alike = h;
        still = c;
        ends = n;
        calm_too = d;
        batches = j;
        flushes = k;
        legal =
            l;
        legal_too = legal;
      }),
)
  where
    legal : IsLegal (F then renumbered batch flush G)
    legal = legal_on batch flush E F G h c n d m j k l s
