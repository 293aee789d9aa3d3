-- What a cell's readers say of the points that it stands for.
use Rattle.std.proofs.Common.{◌≡◌, ℕ, ◌+◌, ◌<◌, ◌≤◌, Bool, true, false, List, [], ◌∷◌, ◌++◌, filter}
use Rattle.std.proofs.Common.{length, max, refl, ap, sym, ◌∙◌, arith}
use Rattle.std.specs.Prelude.{nat_lt}
use Rattle.std.specs.List.{list_all, list_any}
use Rattle.std.proofs.lemmas.Bool.{and_parts, or_parts, le-ltb, lt-ltb}
use Rattle.std.proofs.lemmas.List.{append-nil, length-map, length-append}
use Rattle.std.proofs.lemmas.List.Elements.{filter-append}
use Rattle.series_id.specs.Identity.{Identity, row_length}
use Rattle.series_id.specs.Order.{same_series}
use Rattle.metric_events.specs.Points.{is_home, is_flying, is_in_flight, is_acknowledged}
use Rattle.metric_events.specs.Points.{is_dropped}
use Rattle.metric_events.specs.Series.{hull, row_sum, is_of, frontier}
use Rattle.metric_events.specs.Standing.{stands}
use Rattle.metric_events.specs.declared.place.Place.{Place}
use Rattle.metric_events.specs.declared.place.Place.TheVariants.{InFlight, Acknowledged, Dropped}
use Rattle.metric_events.specs.declared.accepted.Accepted.{Accepted}
use Rattle.metric_events.proofs.Lists.{filter_keeps}
use Rattle.series_cell.specs.Cells.{CellView, Stands, AllOwn, greatest_end, is_landed, end_of}
use Rattle.series_cell.specs.Reading.{IsTotalOf}
use Rattle.series_cell.specs.Spans.{span_of, hull_of}
use Rattle.series_cell.proofs.Points.{landed_off}
use Rattle.series_cell.proofs.Carrying.{spans_hull, hull_at_home}
use Rattle.series_id.proofs.Order.{same_series-refl}
use Rattle.series_cell.proofs.Standing.{end_is, away_spans, flying_off}

-- points that all stand elsewhere
pub none_stand : (t u : Place → Bool) → ((q : Place) → u q ≡ true → t q ≡ false)
    → (qs : List Accepted) → list_all (stands u) qs ≡ true → filter (stands t) qs ≡ []
none_stand t u k [] h = refl
none_stand t u k (a ∷ qs) h =
    let p = and_parts (u a.place) (list_all (stands u) qs) h in
    rw (k a.place p.0) (none_stand t u k qs p.1)

-- points that all stand there
pub all_stand : (t u : Place → Bool) → ((q : Place) → u q ≡ true → t q ≡ true)
    → (qs : List Accepted) → list_all (stands u) qs ≡ true → filter (stands t) qs ≡ qs
all_stand t u k [] h = refl
all_stand t u k (a ∷ qs) h =
    let p = and_parts (u a.place) (list_all (stands u) qs) h in
    rw (k a.place p.0) (ap (λ rs. a ∷ rs) (all_stand t u k qs p.1))

landed_flying : (q : Place) → is_landed q ≡ true → is_flying q ≡ false
landed_flying (InFlight g) e = absurd (let k : false ≡ true = e in cc)
landed_flying q e = refl

flight_flying : (f : ℕ) (q : Place) → is_in_flight f q ≡ true → is_flying q ≡ true
flight_flying f (InFlight g) e = refl
flight_flying f q e = absurd (let k : false ≡ true = e in cc)

flight_ack : (f : ℕ) (q : Place) → is_in_flight f q ≡ true → is_acknowledged q ≡ false
flight_ack f Acknowledged e = absurd (let k : false ≡ true = e in cc)
flight_ack f q e = refl

flight_drop : (f : ℕ) (q : Place) → is_in_flight f q ≡ true → is_dropped q ≡ false
flight_drop f Dropped e = absurd (let k : false ≡ true = e in cc)
flight_drop f q e = refl

home_flying : (q : Place) → is_home q ≡ true → is_flying q ≡ false
home_flying (InFlight g) e = absurd (let k : false ≡ true = e in cc)
home_flying q e = refl

home_ack : (q : Place) → is_home q ≡ true → is_acknowledged q ≡ false
home_ack Acknowledged e = absurd (let k : false ≡ true = e in cc)
home_ack q e = refl

home_drop : (q : Place) → is_home q ≡ true → is_dropped q ≡ false
home_drop Dropped e = absurd (let k : false ≡ true = e in cc)
home_drop q e = refl

three : (t : Accepted → Bool) (c : CellView) (qs : List Accepted) (h : Stands c qs)
    → filter t qs ≡ filter t h.gone ++ (filter t h.away ++ filter t h.home)
three t c qs h = ap (filter t) h.parts
    ∙ (filter-append t h.gone (h.away ++ h.home)
    ∙ ap (λ rs. filter t h.gone ++ rs) (filter-append t h.away h.home))

pub home_points : (c : CellView) (qs : List Accepted) (h : Stands c qs)
    → filter (stands is_home) qs ≡ h.home
home_points c qs h = three (stands is_home) c qs h
    ∙ rw (
      none_stand is_home is_landed landed_off h.gone h.are_gone,
      none_stand is_home
          (is_in_flight c.flush) (flying_off c.flush) h.away h.are_away,
    )
    (filter_keeps (stands is_home) h.home h.are_home)

pub away_points : (c : CellView) (qs : List Accepted) (h : Stands c qs)
    → filter (stands is_flying) qs ≡ h.away
away_points c qs h = three (stands is_flying) c qs h
    ∙ rw (
      none_stand is_flying is_landed landed_flying h.gone h.are_gone,
      all_stand is_flying
          (is_in_flight c.flush) (flight_flying c.flush) h.away h.are_away,
      none_stand is_flying
          is_home home_flying h.home h.are_home,
    ) (append-nil h.away)

pub acknowledged_points : (c : CellView) (qs : List Accepted) (h : Stands c qs)
    → filter (stands is_acknowledged) qs ≡ filter (stands is_acknowledged) h.gone
acknowledged_points c qs h = three (stands is_acknowledged) c qs h
    ∙ rw (
      none_stand is_acknowledged (is_in_flight c.flush) (flight_ack c.flush) h.away h.are_away,
      none_stand is_acknowledged is_home home_ack h.home h.are_home,
    )
    (append-nil (filter (stands is_acknowledged) h.gone))

pub dropped_points : (c : CellView) (qs : List Accepted) (h : Stands c qs)
    → filter (stands is_dropped) qs ≡ filter (stands is_dropped) h.gone
dropped_points c qs h = three (stands is_dropped) c qs h
    ∙ rw (
      none_stand is_dropped (is_in_flight c.flush) (flight_drop c.flush) h.away h.are_away,
      none_stand is_dropped is_home home_drop h.home h.are_home,
    )
    (append-nil (filter (stands is_dropped) h.gone))

-- the frontier

frontier_own : (s : List ℕ) (x : Identity) (qs : List Accepted) → AllOwn s x qs
    → frontier x qs ≡ greatest_end qs
frontier_own s x [] h = refl
frontier_own s x (a ∷ qs) h =
    let is : is_of x a ≡ true = ap (λ y. same_series y x) h.0.series ∙ same_series-refl x in
    rw is (ap (λ n. max a.point.span.end n) (frontier_own s x qs h.1))

pub frontier_is : (c : CellView) (qs : List Accepted) → Stands c qs → end_of c ≡ frontier c.id qs
frontier_is c qs h = end_is c qs h ∙ sym (frontier_own c.owner c.id qs h.own)

-- whether something is in flight, or at home

any_some : (t : Accepted → Bool) (rs : List Accepted) → list_any t rs ≡ true
    → 0 < length (filter t rs)
any_some t [] e = absurd (let k : false ≡ true = e in cc)
any_some t (a ∷ rs) e = both (t a) refl (any_some t rs)
  where
    both : (v : Bool) → t a ≡ v → (list_any t rs ≡ true → 0 < length (filter t rs))
        → 0 < length (filter t (a ∷ rs))
    both true g r = rw g (omega arith)
    both false g r = let k : list_any t rs ≡ true = rw g at e in rw g (r k)

any_none : (t : Accepted → Bool) (rs : List Accepted) → list_any t rs ≡ false
    → length (filter t rs) ≡ 0
any_none t [] e = refl
any_none t (a ∷ rs) e =
    let p = or_parts (t a) (list_any t rs) e in
    rw p.0 (any_none t rs p.1)

tested : (k n : ℕ) (v : Bool) → (v ≡ true → k < n) → (v ≡ false → n ≤ k) → nat_lt k n ≡ v
tested k n true h l = lt-ltb k n (h refl)
tested k n false h l = le-ltb k n (l refl)

pub flying_is : (c : CellView) (qs : List Accepted) → Stands c qs
    → nat_lt 0 c.cut ≡ list_any (stands is_flying) qs
flying_is c qs h = tested 0 c.cut (list_any (stands is_flying) qs)
    (λ e. omega (arith, h.cut, ap length (away_points c qs h), any_some (stands is_flying) qs e))
    (λ e. omega
    (arith, h.cut, ap length (away_points c qs h), any_none (stands is_flying) qs e))

pub stored_is : (c : CellView) (qs : List Accepted) → Stands c qs
    → nat_lt c.cut (length c.spans) ≡ list_any (stands is_home) qs
stored_is c qs h =
    let n : length c.spans ≡ c.cut + length h.home =
    omega (
      arith,
      ap length h.spans,
      length-map (h.away ++ h.home) span_of,
      length-append h.away
          h.home,
      h.cut,
    ) in
    tested c.cut (length c.spans) (list_any (stands is_home) qs)
    (λ e. omega (arith, n, ap length (home_points c qs h), any_some (stands is_home) qs e))
    (λ e. omega (arith, n, ap length (home_points c qs h), any_none (stands is_home) qs e))

-- what a cell says of its points
pub tells : (c : CellView) (qs : List Accepted) → Stands c qs → IsTotalOf c qs
tells c qs h = record {
  accepted = h.accepted;
  acknowledged =
      h.acknowledged ∙ ap (row_sum (row_length c.id.kind)) (sym (acknowledged_points c qs h));
  dropped = h.dropped ∙ ap (row_sum (row_length c.id.kind)) (sym (dropped_points c qs h));
  in_flight = h.in_flight ∙ ap (row_sum (row_length c.id.kind)) (sym (away_points c qs h));
  stored = h.stored ∙ ap (row_sum (row_length c.id.kind)) (sym (home_points c qs h));
  home_span = hull_at_home c qs h ∙ ap hull (sym (home_points c qs h));
  flight_span =
      ap hull_of (away_spans c qs h) ∙ (spans_hull h.away ∙ ap hull (sym (away_points c qs h)));
  frontier = frontier_is c qs h;
  flying = flying_is c qs h;
  at_home = stored_is c qs h;
}
