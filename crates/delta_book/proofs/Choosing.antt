-- The cells that are ready are of the series that may be taken.
use Rattle.std.proofs.Common.{◌≡◌, ◌≢◌, ℕ, ◌==◌, Bool, true, false, cond, not, ◌&&◌, ◌||◌, List, []}
use Rattle.std.proofs.Common.{◌∷◌, ◌++◌, map, filter, take, drop, length, refl, ap, sym, ◌∙◌, subst}
use Rattle.std.proofs.Common.{inl, inr}
use Rattle.std.specs.Prelude.{nat_lt}
use Rattle.std.specs.List.{list_all, list_any}
use Rattle.std.proofs.lemmas.List.{take-append-drop, take_at, map-append}
use Rattle.std.proofs.lemmas.List.Elements.{filter-append}
use Rattle.std.proofs.lemmas.Bool.{and_parts, and_from, or_left, or_cases, true_from_ne_false}
use Rattle.std.proofs.Math.Bool.{and-false}
use Rattle.series_id.specs.Identity.{Identity}
use Rattle.series_id.specs.Order.{same_series, series_before}
use Rattle.series_id.proofs.Order.{same_series-refl, same_series-exact, before-transitive}
use Rattle.series_id.proofs.Order.{before-irreflexive}
use Rattle.metric_events.specs.Points.{is_among, is_home, is_flying, is_in_flight}
use Rattle.metric_events.specs.Series.{is_of, of_series, series_in_order, is_ascending}
use Rattle.metric_events.specs.Standing.{stands}
use Rattle.metric_events.specs.Legal.{is_in_live, is_held}
use Rattle.metric_events.specs.Choice.{is_eligible, first_eligible, is_cargo}
use Rattle.metric_events.specs.declared.place.Place.{Place}
use Rattle.metric_events.specs.declared.place.Place.TheVariants.{InFlight}
use Rattle.metric_events.specs.declared.accepted.Accepted.{Accepted}
use Rattle.metric_events.specs.declared.flight.Flight.{Flight}
use Rattle.metric_events.proofs.Identities.{same_series-turned}
use Rattle.metric_events.proofs.InOrder.{series_ascend, not_among}
use Rattle.metric_events.proofs.SeriesOnce.{among_in_order}
use Rattle.metric_events.proofs.Lists.{all_filter, any_none, filter_none, any_weaker, both_at}
use Rattle.metric_events.proofs.Opened.{any_of_series}
use Rattle.metric_events.proofs.Moves.{rides, rides_at, rides-in_live}
use Rattle.series_cell.specs.Cells.{CellView, Stands, AllOwn}
use Rattle.series_cell.proofs.Reading.{flying_is, stored_is}
use Rattle.delta_book.specs.Tables.{AreCells, AllStand, id_of}
use Rattle.delta_book.specs.inner.Tables.{is_full, are_full}
use Rattle.delta_book.proofs.Picking.{some_filtered}
use Rattle.delta_book.proofs.Tables.{agree}
use Rattle.delta_book.specs.inner.Ready.{is_ready, ready_ids, first_ready}

-- two ascending lists of the same series are one

at_series : (t : Identity → Bool) (x : Identity) (xs : List Identity) → list_all t xs ≡ true
    → is_among x xs ≡ true → t x ≡ true
at_series t x xs h m =
    both_at (same_series x) t (t x ≡ true) (λ y e k. ap t (same_series-exact x y e) ∙ k) xs m h

pub record SameSeries (xs ys : List Identity) : Type 0 where
  pub same : (z : Identity) → is_among z xs ≡ is_among z ys

heads : (x y : Identity) (xs ys : List Identity) → list_all (series_before x) xs ≡ true
    → list_all (series_before y) ys ≡ true → SameSeries (x ∷ xs) (y ∷ ys) → x ≡ y
heads x y xs ys h k s = both (same_series x y) refl
  where
    both : (v : Bool) → same_series x y ≡ v → x ≡ y
    both true e = same_series-exact x y e
    both false e =
        let mx : is_among x ys ≡ true =
        (let q : (same_series x y || is_among x ys) ≡ true =
        sym (s.same x) ∙ or_left (same_series x x) (is_among x xs) (same_series-refl x) in
        later (same_series x y) (is_among x ys) e q) in
        let my : is_among y xs ≡ true =
        (let q : (same_series y x || is_among y xs) ≡ true =
        s.same y ∙ or_left (same_series y y) (is_among y ys) (same_series-refl y) in
        later (same_series y x) (is_among y xs) (same_series-turned y x ∙ e) q) in
        let bx : series_before y x ≡ true = at_series (series_before y) x ys k mx in
        let by : series_before x y ≡ true = at_series (series_before x) y xs h my in
        absurd (let q : true ≡ false = sym (before-transitive x y x by bx) ∙ before-irreflexive x in
        cc)
      where
        later : (u v : Bool) → u ≡ false → (u || v) ≡ true → v ≡ true
        later true v n m = cc
        later false v n m = m

pub same_ascending : (xs ys : List Identity) → is_ascending xs ≡ true → is_ascending ys ≡ true
    → SameSeries xs ys → xs ≡ ys
same_ascending [] [] h k s = refl
same_ascending [] (y ∷ ys) h k s =
    absurd (let q : false ≡ true =
    s.same y ∙ or_left (same_series y y) (is_among y ys) (same_series-refl y) in cc)
same_ascending (x ∷ xs) [] h k s =
    absurd (let q : false ≡ true =
    sym (s.same x) ∙ or_left (same_series x x) (is_among x xs) (same_series-refl x) in cc)
same_ascending (x ∷ xs) (y ∷ ys) h k s =
    let p = and_parts (list_all (series_before x) xs) (is_ascending xs) h in
    let q = and_parts (list_all (series_before y) ys) (is_ascending ys) k in
    let e = heads x y xs ys p.0 q.0 s in
    ap (λ z. z ∷ xs) e ∙ ap (λ zs. y ∷ zs)
    (same_ascending xs ys p.1 q.1 (record {
      same =
          λ z. tails z (same_series z x) refl (not_among x xs p.0) (not_among y ys q.0) e;
    }))
  where
    tails : (z : Identity) (v : Bool) → same_series z x ≡ v → is_among x xs ≡ false
        → is_among y ys ≡ false → x ≡ y → is_among z xs ≡ is_among z ys
    tails z true m nx ny e =
        let a : is_among z xs ≡ false =
        subst (λ w. is_among w xs ≡ false) (sym (same_series-exact z x m)) nx in
        let b : is_among z ys ≡ false =
        subst (λ w. is_among w ys ≡ false) (sym (same_series-exact z x m ∙ e)) ny in
        a ∙ sym b
    tails z false m nx ny e =
        let n : same_series z y ≡ false = subst (λ w. same_series z w ≡ false) e m in
        let t : (same_series z x || is_among z xs) ≡ (same_series z y || is_among z ys) =
        s.same z in
        let t2 : (false || is_among z xs) ≡ (false || is_among z ys) = rw (m, n) at t in t2

-- the series with a point that passes a test

ascending_filter : (t : Identity → Bool) (xs : List Identity) → is_ascending xs ≡ true
    → is_ascending (filter t xs) ≡ true
ascending_filter t [] h = refl
ascending_filter t (x ∷ xs) h =
    let p = and_parts (list_all (series_before x) xs) (is_ascending xs) h in
    elim (t x) as (λ v. is_ascending (cond v (x ∷ filter t xs) (filter t xs)) ≡ true) [
      | true ↦ and_from (list_all (series_before x) (filter t xs)) (is_ascending (filter t xs))
          (all_filter (series_before x) t xs p.0) (ascending_filter t xs p.1)
      | false ↦ ascending_filter t xs p.1
    ]

among_filter : (t : Identity → Bool) (z : Identity) (xs : List Identity)
    → is_among z (filter t xs) ≡ (is_among z xs && t z)
among_filter t z [] = refl
among_filter t z (x ∷ xs) = both (same_series z x) (t x) refl refl (among_filter t z xs)
  where
    and_last : (u v : Bool) → v ≡ true → (u && v) ≡ u
    and_last true v e = e
    and_last false v e = refl

    both : (v w : Bool) → same_series z x ≡ v → t x ≡ w
        → is_among z (filter t xs) ≡ (is_among z xs && t z)
        → is_among z (filter t (x ∷ xs)) ≡ ((same_series z x || is_among z xs) && t z)
    both true true e f r = let tz : t z ≡ true = ap t (same_series-exact z x e) ∙ f in
        rw (f, e) (sym tz)
    both true false e f r = let tz : t z ≡ false = ap t (same_series-exact z x e) ∙ f in
        rw (f, e) (r ∙ (ap (λ v. is_among z xs && v) tz ∙ (and-false (is_among z xs) ∙ sym tz)))
    both false true e f r = rw (f, e) r
    both false false e f r = rw (f, e) r

any_of_filter : (t : Accepted → Bool) (z : Identity) (qs : List Accepted)
    → list_any (is_of z) (filter t qs) ≡ list_any t (of_series z qs)
any_of_filter t z [] = refl
any_of_filter t z (a ∷ qs) = both (is_of z a) (t a) refl refl (any_of_filter t z qs)
  where
    both : (v w : Bool) → is_of z a ≡ v → t a ≡ w
        → list_any (is_of z) (filter t qs) ≡ list_any t (of_series z qs)
        → list_any (is_of z) (filter t (a ∷ qs)) ≡ list_any t (of_series z (a ∷ qs))
    both true true e f r = rw (e, f, e) refl
    both true false e f r = rw (e, f) r
    both false true e f r = rw (e, f, e) r
    both false false e f r = rw (e, f) r

none_there : (t : Accepted → Bool) (z : Identity) (qs : List Accepted)
    → list_any (is_of z) qs ≡ false → list_any t (of_series z qs) ≡ false
none_there t z qs h = ap (list_any t) (filter_none (is_of z) qs (any_none (is_of z) qs h))

pub series_passing : (t : Accepted → Bool) (qs : List Accepted)
    → filter (λ x. list_any t (of_series x qs)) (series_in_order qs) ≡ series_in_order (filter t qs)
series_passing t qs = same_ascending
    (filter (λ x. list_any t (of_series x qs)) (series_in_order qs)) (series_in_order (filter t qs))
    (ascending_filter (λ x. list_any t (of_series x qs)) (series_in_order qs) (series_ascend qs))
    (series_ascend (filter t qs))
    (record {
      same = λ z. among_filter (λ x. list_any t (of_series x qs)) z (series_in_order qs)
          ∙ (ap (λ v. v && list_any t (of_series z qs)) (among_in_order z qs)
          ∙ (there z (list_any (is_of z) qs) refl
          ∙ (sym (any_of_filter t z qs) ∙ sym (among_in_order z (filter t qs)))));
    })
  where
    there : (z : Identity) (v : Bool) → list_any (is_of z) qs ≡ v
        → (list_any (is_of z) qs && list_any t (of_series z qs)) ≡ list_any t (of_series z qs)
    there z true e = rw e refl
    there z false e = rw e (sym (none_there t z qs e))

-- a cell is ready where a point of it is eligible

-- a series is in a live flush where it has a point in flight
pub record AreTied (qs : List Accepted) (live : List Flight) : Type 0 where
  pub tied : (x : Identity) → is_in_live live x ≡ list_any (stands is_flying) (of_series x qs)

eligible_of : (s : List ℕ) (x : Identity) (live : List Flight) (held : List (List ℕ))
    (rs : List Accepted) → AllOwn s x rs
    → list_any (is_eligible live held) rs
    ≡ (list_any (stands is_home) rs && (not (is_in_live live x) && not (is_held s held)))
eligible_of s x live held [] h = refl
eligible_of s x live held (a ∷ rs) h =
    let e : is_eligible live held a
    ≡ (is_home a.place && (not (is_in_live live x) && not (is_held s held))) =
    ap (λ y. is_home a.place && (not (is_in_live live y) && not (is_held a.sender held))) h.0.series
    ∙ ap (λ y. is_home a.place && (not (is_in_live live x) && not (is_held y held))) h.0.sender
    in
    ap (λ v. v || list_any (is_eligible live held) rs) e
    ∙ (ap (λ v. (is_home a.place && (not (is_in_live live x) && not (is_held s held))) || v)
    (eligible_of s x live held rs h.1)
    ∙ spread (is_home a.place) (list_any (stands is_home) rs)
    (not (is_in_live live x) && not (is_held s held)))
  where
    spread : (u v w : Bool) → ((u && w) || (v && w)) ≡ ((u || v) && w)
    spread true true true = refl
    spread true true false = refl
    spread true false true = refl
    spread true false false = refl
    spread false v w = refl

ready_is : (c : CellView) (qs : List Accepted) (live : List Flight) (held : List (List ℕ))
    → Stands c (of_series c.id qs) → AreTied qs live
    → is_ready held c ≡ list_any (is_eligible live held) (of_series c.id qs)
ready_is c qs live held h t =
    ap (λ v. v && (not (nat_lt 0 c.cut) && not (is_held c.owner held)))
    (stored_is c (of_series c.id qs) h)
    ∙ (ap (λ v. list_any (stands is_home) (of_series c.id qs)
    && (not v && not (is_held c.owner held)))
    (flying_is c (of_series c.id qs) h ∙ sym (t.tied c.id))
    ∙ sym (eligible_of c.owner c.id live held (of_series c.id qs) h.own))

ready_filter : (cs : List CellView) (qs : List Accepted) (live : List Flight) (held : List (List ℕ))
    → AllStand cs qs → AreTied qs live
    → ready_ids held cs
    ≡ filter (λ x. list_any (is_eligible live held) (of_series x qs)) (map id_of cs)
ready_filter [] qs live held h t = refl
ready_filter (c ∷ cs) qs live held h t =
    both (is_ready held c) refl (ready_filter cs qs live held h.1 t)
  where
    both : (v : Bool) → is_ready held c ≡ v
        → ready_ids held cs ≡ filter (λ x. list_any (is_eligible live held) (of_series x qs))
        (map id_of cs) → ready_ids held (c ∷ cs)
        ≡ filter (λ x. list_any (is_eligible live held) (of_series x qs))
        (c.id ∷ map id_of cs)
    both true e r = rw (e, sym (ready_is c qs live held h.0 t) ∙ e) (ap (λ xs. c.id ∷ xs) r)
    both false e r = rw (e, sym (ready_is c qs live held h.0 t) ∙ e) r

pub first_is : (cs : List CellView) (qs : List Accepted) (live : List Flight) (held : List (List ℕ))
    (n : ℕ) → AreCells cs qs → AreTied qs live
    → first_ready held n cs ≡ first_eligible qs live held n
first_is cs qs live held n h t = ap (take n)
    (ready_filter cs qs live held h.stand t
    ∙ (ap (filter (λ x. list_any (is_eligible live held) (of_series x qs))) h.ids
    ∙ series_passing (is_eligible live held) qs))

some_ids : (held : List (List ℕ)) (cs : List CellView) → list_any (is_ready held) cs ≡ true
    → ready_ids held cs ≢ []
some_ids held [] a e = let q : false ≡ true = a in cc
some_ids held (c ∷ cs) a e = both (is_ready held c) refl (some_ids held cs)
  where
    both : (v : Bool) → is_ready held c ≡ v
        → (list_any (is_ready held) cs ≡ true → ready_ids held cs ≡ [] → ⊥) → ⊥
    both true f r = let q : c.id ∷ ready_ids held cs ≡ [] = rw f at e in cc
    both false f r = r (rw f at a) (rw f at e)

pub none_ids : (held : List (List ℕ)) (cs : List CellView) → list_any (is_ready held) cs ≡ false
    → ready_ids held cs ≡ []
none_ids held cs a = ap (map id_of) (filter_none (is_ready held) cs (any_none (is_ready held) cs a))

none_filtered : (t : Accepted → Bool) (qs : List Accepted) → list_any t qs ≡ false
    → filter t qs ≡ []
none_filtered t qs e = filter_none t qs (any_none t qs e)

pub any_ready : (cs : List CellView) (qs : List Accepted) (live : List Flight)
    (held : List (List ℕ)) → AreCells cs qs → AreTied qs live
    → list_any (is_ready held) cs ≡ list_any (is_eligible live held) qs
any_ready cs qs live held h t = agree
    (λ a. true_from_ne_false _ (λ b. some_ids held cs a
    (ids ∙ ap series_in_order (none_filtered (is_eligible live held) qs b))))
    (λ b. true_from_ne_false
    _ (λ a. some_filtered (is_eligible live held) qs b (sym ids ∙ none_ids held cs a)))
  where
    ids : ready_ids held cs ≡ series_in_order (filter (is_eligible live held) qs)
    ids = ready_filter cs qs live held h.stand t
        ∙ (ap (filter (λ x. list_any (is_eligible live held) (of_series x qs))) h.ids
        ∙ series_passing (is_eligible live held) qs)

-- what a book keeps is tied: a live flush has a point in flight of each of its series, and nothing
-- else flies

flying_of : (x : Identity) (a : Accepted) → (f : ℕ) → is_cargo f x a ≡ true
    → (is_of x a && is_flying a.place) ≡ true
flying_of x a f h = by a.place h
  where
    by : (place : Place) → (is_in_flight f place && is_of x a) ≡ true
        → (is_of x a && is_flying place) ≡ true
    by (InFlight g) e = and_from (is_of x a) true (and_parts (g == f) (is_of x a) e).1 refl
    by place e = absurd (let k : false ≡ true = e in cc)

live_flies : (qs : List Accepted) (x : Identity) (live : List Flight) → are_full qs live ≡ true
    → is_in_live live x ≡ true → list_any (stands is_flying) (of_series x qs) ≡ true
live_flies qs x [] h m = absurd (let q : false ≡ true = m in cc)
live_flies qs x (l ∷ live) h m =
    let p = and_parts (is_full qs l) (are_full qs live) h in
    elim (or_cases (is_among x l.series) (is_in_live live x) m) [
      | inl e ↦ sym (any_of_series x (stands is_flying) qs)
          ∙ any_weaker (is_cargo l.number x) (λ a. is_of x a && is_flying a.place)
          (λ a k. flying_of x a l.number k) qs
          (at_series (λ y. list_any (is_cargo l.number y) qs) x l.series p.0 e)
      | inr e ↦ live_flies qs x live p.1 e
    ]

flies_live : (qs : List Accepted) (x : Identity) (live : List Flight)
    → list_all (rides live) qs ≡ true → list_any (stands is_flying) (of_series x qs) ≡ true
    → is_in_live live x ≡ true
flies_live qs x live h m = both_at (λ a. is_of x a && is_flying a.place) (rides live)
    (is_in_live live x ≡ true) (λ a k r. by a.place a
    (and_parts (is_of x a) (is_flying a.place) k).0
    (and_parts (is_of x a) (is_flying a.place) k).1 r) qs
    (any_of_series x (stands is_flying) qs ∙ m) h
  where
    by : (place : Place) (a : Accepted) → is_of x a ≡ true → is_flying place ≡ true
        → rides_at live a.point.series place ≡ true → is_in_live live x ≡ true
    by (InFlight g) a e f r = subst (λ y. is_in_live live y ≡ true)
        (same_series-exact a.point.series x e) (rides-in_live live a.point.series g r)
    by place a e f r = absurd (let k : false ≡ true = f in cc)

pub tied : (qs : List Accepted) (live : List Flight) → list_all (rides live) qs ≡ true
    → are_full qs live ≡ true → AreTied qs live
tied qs live r h = record { tied = λ x. agree (live_flies qs x live h) (flies_live qs x live r) }

-- so many of the first cells are ready, and these are the first
pub first_upto : (held : List (List ℕ)) (cs : List CellView) (i n : ℕ)
    → length (ready_ids held (take i cs)) ≡ n → ready_ids held (take i cs) ≡ first_ready held n cs
first_upto held cs i n e =
    let parts : ready_ids held cs ≡ ready_ids held (take i cs) ++ ready_ids held (drop i cs) =
    ap (ready_ids held) (sym (take-append-drop i cs))
    ∙ (ap (map id_of) (filter-append (is_ready held) (take i cs) (drop i cs))
    ∙ map-append id_of (filter (is_ready held) (take i cs))
    (filter (is_ready held) (drop i cs))) in
    sym (ap (take n) parts ∙ take_at (ready_ids held (take i cs)) (ready_ids held (drop i cs)) n e)
