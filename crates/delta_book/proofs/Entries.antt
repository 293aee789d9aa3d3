-- What the entry of a flush says of the points, and that each of its series has one in flight.
use Rattle.std.proofs.Common.{◌≡◌, ◌≢◌, ℕ, ◌<◌, ◌≤◌, ◌==◌, ◌⊎◌, Bool, true, false, cond, not, ◌&&◌}
use Rattle.std.proofs.Common.{◌||◌, List, [], ◌∷◌, ◌++◌, map, filter, length, get_or, refl, ap, sym}
use Rattle.std.proofs.Common.{◌∙◌, subst, arith, zero, suc, inl, inr, Some, None}
use Rattle.std.specs.Prelude.{fold}
use Rattle.std.specs.List.{list_all, list_any}
use Rattle.std.proofs.lemmas.Bool.{and_parts, and_from, or_left, or_right, or_cases, not-true}
use Rattle.std.proofs.lemmas.Bool.{eqb-true, eq-eqb, ne_eqb}
use Rattle.std.proofs.Math.Bool.{or-false}
use Rattle.std.proofs.lemmas.Option.{none-some, same_Some}
use Rattle.series_id.specs.Identity.{Identity}
use Rattle.series_id.specs.Order.{same_series}
use Rattle.series_id.proofs.Order.{same_series-refl, same_series-exact}
use Rattle.metric_events.specs.DataPoint.{DataPoint}
use Rattle.metric_events.specs.History.{History, Opened, ◌▸◌, IsNewFlush}
use Rattle.metric_events.specs.Points.{points, admitted, is_among, is_home, is_in_flight}
use Rattle.metric_events.specs.Points.{is_of_other_batch, at, landed, taken}
use Rattle.metric_events.specs.Running.{is_other_flight}
use Rattle.metric_events.specs.Legal.{IsLegal, are_distinct, is_batch_home, is_live}
use Rattle.metric_events.specs.Series.{is_of}
use Rattle.metric_events.specs.Choice.{is_cargo}
use Rattle.metric_events.specs.declared.place.Place.{Place}
use Rattle.metric_events.specs.declared.place.Place.TheVariants.{Home, InFlight, Acknowledged}
use Rattle.metric_events.specs.declared.place.Place.TheVariants.{Dropped}
use Rattle.metric_events.specs.declared.accepted.Accepted.{Accepted}
use Rattle.metric_events.specs.declared.flight.Flight.{Flight}
use Rattle.metric_events.specs.declared.entry.Entry.{Entry}
use Rattle.metric_events.specs.declared.event.Event.{Event}
use Rattle.metric_events.specs.declared.event.Event.TheVariants.{Admit, Undo, Take, Settle, Drop}
use Rattle.metric_events.specs.declared.event.Event.TheVariants.{GiveBack}
use Rattle.metric_events.proofs.Lists.{all_append, all_filter, all_map, all_weaker, any_append_left}
use Rattle.metric_events.proofs.Moves.{is_out_of}
use Rattle.metric_events.proofs.Invariants.{new_flights}
use Rattle.delta_book.specs.Journal.{Journal, history, and_then}
use Rattle.delta_book.specs.inner.Tables.{At, AreFlights, entry_of, series_named, series_of_event}
use Rattle.delta_book.specs.inner.Tables.{points_named, points_of_event, is_other_open, is_full}
use Rattle.delta_book.specs.inner.Tables.{are_full}
use Rattle.delta_book.specs.declared.open.JournalRef.{JournalRef}
use Rattle.delta_book.proofs.Tables.{is_in_or_out}

-- a Take of the history
abbrev pub TakeIn : History → ℕ → List Identity → Type 0
TakeIn (Opened O) f series = ⊥
TakeIn (E ▸ Take g some) f series = ((g ≡ f) × (some ≡ series)) ⊎ TakeIn E f series
TakeIn (E ▸ e) f series = TakeIn E f series

take_kept : (E : History) (e : Event) (f : ℕ) (series : List Identity) → TakeIn E f series
    → TakeIn (E ▸ e) f series
take_kept E (Take g some) f series h = inr h
take_kept E e f series h = h

-- what holds from an event on holds of a history with an entry of it
stays : (P : History → Type 0) → ((E : History) (e : Event) → P E → P (E ▸ e))
    → (E : History) (xs : List Entry) → P E → P (fold and_then E xs)
stays P k E [] h = h
stays P k E (x ∷ xs) h = stays P k (E ▸ x.event) xs (k E x.event h)

pub from_entry : (P : History → Type 0) → ((E : History) (e : Event) → P E → P (E ▸ e))
    → (e : Event) → ((E : History) → P (E ▸ e)) → (E : History) (xs : List Entry) (i : ℕ)
    → At xs i e → P (fold and_then E xs)
from_entry P k e new E [] i h = absurd h
from_entry P k e new E (x ∷ xs) zero h =
    stays P k (E ▸ x.event) xs (subst (λ f. P (E ▸ f)) (sym h) (new E))
from_entry P k e new E (x ∷ xs) (suc i) h = from_entry P k e new (E ▸ x.event) xs i h

pub take_in : (xs : Journal) (i : ℕ) (f : ℕ) (series : List Identity)
    → At xs.entries i (Take f series) → TakeIn (history xs) f series
take_in xs i f series h = from_entry (λ E. TakeIn E f series) (λ E e k. take_kept E e f series k)
    (Take f series) (λ E. inl (refl, refl)) (Opened xs.opening) xs.entries i h

pub named_at : (xs : List Entry) (i : ℕ) (f : ℕ) (series : List Identity) → At xs i (Take f series)
    → series_named xs i ≡ series
named_at [] i f series h = absurd h
named_at (x ∷ xs) zero f series h = ap series_of_event h
named_at (x ∷ xs) (suc i) f series h = named_at xs i f series h

pub taken_distinct : (E : History) (f : ℕ) (series : List Identity) → IsLegal E → TakeIn E f series
    → are_distinct series ≡ true
taken_distinct (Opened O) f series l h = absurd h
taken_distinct (E ▸ Take g some) f series l h =
    elim h [
      | inl p ↦ subst (λ xs. are_distinct xs ≡ true) p.1 l.1.distinct
      | inr k ↦ taken_distinct E f series l.0 k
    ]
taken_distinct (E ▸ e) f series l h = taken_distinct E f series l.0 h

new_not_in : (E : History) (g f : ℕ) (series : List Identity) → IsNewFlush g E → TakeIn E f series
    → g ≢ f
new_not_in (Opened O) g f series n h = absurd h
new_not_in (E ▸ Take k some) g f series n h =
    elim h [ inl p ↦ (λ e. n.0 (p.0 ∙ sym e)) | inr m ↦ new_not_in E g f series n.1 m ]
new_not_in (E ▸ e) g f series n h = new_not_in E g f series n h

admitted_out : (f b : ℕ) (s : List ℕ) (series : List Identity) (ps : List DataPoint)
    → list_all (is_in_or_out f series) (map (admitted b s) ps) ≡ true
admitted_out f b s series [] = refl
admitted_out f b s series (p ∷ ps) = admitted_out f b s series ps

landed_out : (f g : ℕ) (q : Place) (series : List Identity) → is_in_flight f q ≡ false
    → (a : Accepted) → is_in_or_out f series a ≡ true → is_in_or_out f series (landed g q a) ≡ true
landed_out f g q series e a h =
    elim (is_in_flight g a.place) as (λ v. is_in_or_out f series (cond v (at q a) a) ≡ true) [
      | true ↦ or_left (not (is_in_flight f q)) (is_among a.point.series series) (ap not e)
      | false ↦ h
    ]

taken_new : (f : ℕ) (series : List Identity) (a : Accepted) → is_out_of f a ≡ true
    → is_in_or_out f series (taken f series a) ≡ true
taken_new f series a h = both (is_home a.place && is_among a.point.series series) refl
  where
    both : (v : Bool) → (is_home a.place && is_among a.point.series series) ≡ v
        → is_in_or_out f series (cond v (at (InFlight f) a) a) ≡ true
    both true e = or_right (not (is_in_flight f (InFlight f))) (is_among a.point.series series)
        (and_parts (is_home a.place) (is_among a.point.series series) e).1
    both false e = or_left (not (is_in_flight f a.place)) (is_among a.point.series series) h

taken_other : (f g : ℕ) (series some : List Identity) → g ≢ f → (a : Accepted)
    → is_in_or_out f series a ≡ true → is_in_or_out f series (taken g some a) ≡ true
taken_other f g series some ne a h =
    elim (is_home a.place && is_among a.point.series some)
    as (λ v. is_in_or_out f series (cond v (at (InFlight g) a) a) ≡ true) [
      | true ↦ or_left (not (g == f)) (is_among a.point.series series) (ap not (ne_eqb g f ne))
      | false ↦ h
    ]

-- what is in flight with a flush is of its series
pub rides_in : (E : History) (f : ℕ) (series : List Identity) → IsLegal E → TakeIn E f series
    → list_all (is_in_or_out f series) (points E) ≡ true
rides_in (Opened O) f series l h = absurd h
rides_in (E ▸ Admit b body) f series l h =
    all_append (is_in_or_out f series) (points E) (map (admitted b body.sender) body.points)
    (rides_in E f series l.0 h) (admitted_out f b body.sender series body.points)
rides_in (E ▸ Undo b) f series l h =
    all_filter (is_in_or_out f series) (is_of_other_batch b) (points E) (rides_in E f series l.0 h)
rides_in (E ▸ Take g some) f series l h =
    elim h [
      | inl p ↦
          subst (λ xs. list_all (is_in_or_out f xs) (map (taken g some) (points E)) ≡ true) p.1
          (subst (λ k. list_all (is_in_or_out k some) (map (taken g some) (points E)) ≡ true) p.0
          (all_map (is_out_of g) (is_in_or_out g some) (taken g some) (taken_new g some)
          (points E) (new_flights g E l.1.fresh)))
      | inr k ↦ all_map (is_in_or_out f series) (is_in_or_out f series) (taken g some)
          (taken_other f g series some (new_not_in E g f series l.1.fresh k)) (points E)
          (rides_in E f series l.0 k)
    ]
rides_in (E ▸ Settle g) f series l h =
    all_map (is_in_or_out f series) (is_in_or_out f series) (landed g Acknowledged)
    (landed_out f g Acknowledged series refl) (points E) (rides_in E f series l.0 h)
rides_in (E ▸ Drop g) f series l h =
    all_map (is_in_or_out f series) (is_in_or_out f series) (landed g Dropped)
    (landed_out f g Dropped series refl) (points E) (rides_in E f series l.0 h)
rides_in (E ▸ GiveBack g) f series l h =
    all_map (is_in_or_out f series) (is_in_or_out f series) (landed g Home)
    (landed_out f g Home series refl) (points E) (rides_in E f series l.0 h)
rides_in (E ▸ e) f series l h = rides_in E f series l.0 h

-- each series of a live flush has a point in flight with it, after each event

any_mapped : {X : Type 0} (t u : X → Bool) (f : X → X) → ((x : X) → t x ≡ true → u (f x) ≡ true)
    → (xs : List X) → list_any t xs ≡ true → list_any u (map f xs) ≡ true
any_mapped t u f k [] h = h
any_mapped t u f k (x ∷ xs) h = elim (or_cases (t x) (list_any t xs) h) [
  | inl m ↦ or_left (u (f x)) (list_any u (map f xs)) (k x m)
  | inr m ↦ or_right (u (f x)) (list_any u (map f xs)) (any_mapped t u f k xs m)
]

any_kept : {X : Type 0} (t q : X → Bool) (xs : List X) → list_all (λ x. not (t x) || q x) xs ≡ true
    → list_any t xs ≡ true → list_any t (filter q xs) ≡ true
any_kept t q [] h k = k
any_kept t q (x ∷ xs) h k = both (q x) refl (any_kept t q xs p.1)
  where
    p : ((not (t x) || q x) ≡ true) × (list_all (λ x. not (t x) || q x) xs ≡ true)
    p = and_parts (not (t x) || q x) (list_all (λ x. not (t x) || q x) xs) h

    both : (v : Bool) → q x ≡ v → (list_any t xs ≡ true → list_any t (filter q xs) ≡ true)
        → list_any t (filter q (x ∷ xs)) ≡ true
    both true e r = rw e (elim (or_cases (t x) (list_any t xs) k) [
      | inl m ↦ or_left (t x) (list_any t (filter q xs)) m
      | inr m ↦ or_right (t x) (list_any t (filter q xs)) (r m)
    ])
    both false e r = rw e (elim (or_cases (t x) (list_any t xs) k) [
      | inl m ↦ absurd (let n : (not true || false) ≡ true = rw (m, e) at p.0 in
          let z : false ≡ true = n in cc)
      | inr m ↦ r m
    ])

-- of two one holds, and it is not the first
pub by_second : (v w : Bool) → v ≡ true → (not v || w) ≡ true → w ≡ true
by_second true w e f = f
by_second false w e f = cc

pub all_filtered : {X : Type 0} (t q u : X → Bool)
    → ((x : X) → t x ≡ true → q x ≡ true → u x ≡ true) → (xs : List X) → list_all t xs ≡ true
    → list_all u (filter q xs) ≡ true
all_filtered t q u k [] h = refl
all_filtered t q u k (x ∷ xs) h =
    both (q x) refl (all_filtered t q u k xs (and_parts (t x) (list_all t xs) h).1)
  where
    both : (v : Bool) → q x ≡ v → list_all u (filter q xs) ≡ true
        → list_all u (filter q (x ∷ xs)) ≡ true
    both true e r = rw e
        (and_from (u x) (list_all u (filter q xs)) (k x (and_parts (t x) (list_all t xs) h).0 e) r)
    both false e r = rw e r

full_by : (qs rs : List Accepted) (l : Flight)
    → ((x : Identity) → list_any (is_cargo l.number x) qs ≡ true
    → list_any (is_cargo l.number x) rs ≡ true) → is_full qs l ≡ true → is_full rs l ≡ true
full_by qs rs l k h = all_weaker (λ x. list_any (is_cargo l.number x) qs)
    (λ x. list_any (is_cargo l.number x) rs) k l.series h

cargo_landed : (n g : ℕ) (q : Place) (x : Identity) → (n == g) ≡ false
    → (p : DataPoint) (b : ℕ) (s : List ℕ) (place : Place)
    → is_cargo n x (record { point = p; batch = b; sender = s; place = place }) ≡ true
    → is_cargo n x (landed g q (record { point = p; batch = b; sender = s; place = place }))
    ≡ true
cargo_landed n g q x ne p b s (InFlight m) h =
    let same : m ≡ n = eqb-true m n (and_parts (m == n) (same_series p.series x) h).0 in
    let e : (m == g) ≡ false = subst (λ k. (k == g) ≡ false) (sym same) ne in
    rw e h
cargo_landed n g q x ne p b s place h = absurd (let k : false ≡ true = h in cc)

cargo_taken : (n g : ℕ) (some : List Identity) (x : Identity) (p : DataPoint) (b : ℕ) (s : List ℕ)
    (place : Place) → is_cargo n x (record { point = p; batch = b; sender = s; place = place })
    ≡ true → is_cargo n x
    (taken g some (record { point = p; batch = b; sender = s; place = place })) ≡ true
cargo_taken n g some x p b s (InFlight m) h = h
cargo_taken n g some x p b s place h = absurd (let k : false ≡ true = h in cc)

pub full_admit : (qs rs : List Accepted) (live : List Flight) → are_full qs live ≡ true
    → are_full (qs ++ rs) live ≡ true
full_admit qs rs live h = all_weaker (is_full qs) (is_full (qs ++ rs))
    (λ l k. full_by qs (qs ++ rs) l (λ x m. any_append_left (is_cargo l.number x) qs rs m) k) live h

cargo_stays : (b n : ℕ) (x : Identity) (a : Accepted)
    → (not (a.batch == b) || is_home a.place) ≡ true
    → (not (is_cargo n x a) || is_of_other_batch b a) ≡ true
cargo_stays b n x a h = by a.place refl h
  where
    by : (place : Place) → a.place ≡ place → (not (a.batch == b) || is_home a.place) ≡ true
        → (not (is_in_flight n a.place && is_of x a) || not (a.batch == b)) ≡ true
    by Home e k = rw e refl
    by (InFlight g) e k = or_right (not (is_in_flight n a.place && is_of x a)) (not (a.batch == b))
        (let m : (not (a.batch == b) || false) ≡ true = rw e at k in
        sym (or-false (not (a.batch == b))) ∙ m)
    by place e k = rw e refl

pub full_undo : (b : ℕ) (qs : List Accepted) (live : List Flight) → is_batch_home b qs ≡ true
    → are_full qs live ≡ true → are_full (filter (is_of_other_batch b) qs) live ≡ true
full_undo b qs live e h = all_weaker (is_full qs) (is_full (filter (is_of_other_batch b) qs))
    (λ l k. full_by qs (filter (is_of_other_batch b) qs) l
    (λ x m. any_kept (is_cargo l.number x) (is_of_other_batch b) qs
    (all_weaker (λ a. not (a.batch == b) || is_home a.place)
    (λ a. not (is_cargo l.number x a) || is_of_other_batch b a)
    (cargo_stays b l.number x) qs e) m) k) live h

pub full_land : (g : ℕ) (q : Place) (qs : List Accepted) (live : List Flight)
    → are_full qs live ≡ true
    → are_full (map (landed g q) qs) (filter (is_other_flight g) live) ≡ true
full_land g q qs live h = all_filtered (is_full qs) (is_other_flight g)
    (is_full (map (landed g q) qs)) (λ l k o. full_by qs (map (landed g q) qs) l
    (λ x m. any_mapped (is_cargo l.number x) (is_cargo l.number x) (landed g q)
    (λ a c. cargo_landed l.number g q x (not-true (l.number == g) o) a.point a.batch
    a.sender a.place c) qs m) k) live h

-- the series that are taken have something at home
abbrev pub is_home_of : Identity → Accepted → Bool
is_home_of x a = is_home a.place && is_of x a

all_among : (t u : Identity → Bool) (all : List Identity)
    → ((x : Identity) → is_among x all ≡ true → t x ≡ true → u x ≡ true) → (xs : List Identity)
    → ((x : Identity) → is_among x xs ≡ true → is_among x all ≡ true) → list_all t xs ≡ true
    → list_all u xs ≡ true
all_among t u all k [] w h = refl
all_among t u all k (x ∷ xs) w h =
    let p = and_parts (t x) (list_all t xs) h in
    and_from (u x) (list_all u xs)
    (k x (w x (or_left (same_series x x) (is_among x xs) (same_series-refl x))) p.0)
    (all_among t u all k xs (λ y m. w y (or_right (same_series y x) (is_among y xs) m)) p.1)

home_taken : (g : ℕ) (some : List Identity) (x : Identity) → is_among x some ≡ true → (a : Accepted)
    → is_home_of x a ≡ true → is_cargo g x (taken g some a) ≡ true
home_taken g some x m a h =
    let p = and_parts (is_home a.place) (is_of x a) h in
    let k : is_among a.point.series some ≡ true =
    subst (λ y. is_among y some ≡ true) (sym (same_series-exact a.point.series x p.1)) m in
    rw (p.0, k) (and_from (g == g) (is_of x a) (eq-eqb g g refl) p.1)

pub full_take : (g : ℕ) (some : List Identity) (qs : List Accepted) (live : List Flight)
    → list_all (λ x. list_any (is_home_of x) qs) some ≡ true → are_full qs live ≡ true
    → are_full (map (taken g some) qs) (live ++ record { number = g; series = some } ∷ [])
    ≡ true
full_take g some qs live home h =
    all_append (is_full (map (taken g some) qs)) live (record { number = g; series = some } ∷ [])
    (all_weaker (is_full qs) (is_full (map (taken g some) qs))
    (λ l k. full_by qs (map (taken g some) qs) l
    (λ x m. any_mapped (is_cargo l.number x) (is_cargo l.number x) (taken g some)
    (λ a c. cargo_taken l.number g some x a.point a.batch a.sender a.place c) qs m) k)
    live h)
    (and_from _ true (all_among (λ x. list_any (is_home_of x) qs)
    (λ x. list_any (is_cargo g x) (map (taken g some) qs)) some
    (λ x m k. any_mapped (is_home_of x) (is_cargo g x) (taken g some)
    (home_taken g some x m) qs k) some (λ x m. m) home) refl)

-- what is live, by its entry

pub record FlightAt (es : List Entry) (ls : List Flight) (f i : ℕ) : Type 0 where
  pub flight : Flight
  pub number : flight.number ≡ f
  pub here : At es i (Take f flight.series)
  pub one : (t : Flight → Bool) → list_all t ls ≡ true → t flight ≡ true
  pub live : is_live f ls ≡ true

pub flight_at : (es : List Entry) (os : List JournalRef) (ls : List Flight) (f i : ℕ)
    → AreFlights es os ls → entry_of f os ≡ Some i → FlightAt es ls f i
flight_at es [] [] f i h e = absurd (none-some i e)
flight_at es [] (l ∷ ls) f i h e = absurd h
flight_at es (o ∷ os) [] f i h e = absurd h
flight_at es (o ∷ os) (l ∷ ls) f i h e = both (o.number == f) refl (flight_at es os ls f i h.2)
  where
    both : (v : Bool) → (o.number == f) ≡ v → (entry_of f os ≡ Some i → FlightAt es ls f i)
        → FlightAt es (l ∷ ls) f i
    both true n r =
        let is : l.number ≡ f = sym h.0 ∙ eqb-true o.number f n in
        let place : o.entry ≡ i =
        same_Some o.entry i (let k : Some o.entry ≡ Some i = rw n at e in k) in
        record {
          flight = l;
          number = is;
          here = subst (λ j. At es j (Take f l.series)) place
              (subst (λ m. At es o.entry (Take m l.series)) is h.1);
          one = λ t a. (and_parts (t l) (list_all t ls) a).0;
          live = or_left (l.number == f) (is_live f ls) (eq-eqb l.number f is);
        }
    both false n r =
        let s = r (let k : entry_of f os ≡ Some i = rw n at e in k) in
        record {
          flight = s.flight;
          number = s.number;
          here = s.here;
          one = λ t a. s.one t (and_parts (t l) (list_all t ls) a).1;
          live = or_right (l.number == f) (is_live f ls) s.live;
        }

pub no_flight : (es : List Entry) (os : List JournalRef) (ls : List Flight) (f : ℕ)
    → AreFlights es os ls → entry_of f os ≡ None → is_live f ls ≡ false
no_flight es [] [] f h e = refl
no_flight es [] (l ∷ ls) f h e = absurd h
no_flight es (o ∷ os) [] f h e = absurd h
no_flight es (o ∷ os) (l ∷ ls) f h e = both (o.number == f) refl (no_flight es os ls f h.2)
  where
    both : (v : Bool) → (o.number == f) ≡ v → (entry_of f os ≡ None → is_live f ls ≡ false)
        → ((l.number == f) || is_live f ls) ≡ false
    both true n r = absurd (none-some o.entry (sym (let k : Some o.entry ≡ None = rw n at e in k)))
    both false n r =
        let m : (l.number == f) ≡ false = subst (λ k. (k == f) ≡ false) h.0 n in
        rw m (r (let k : entry_of f os ≡ None = rw n at e in k))

pub at_more : (xs ys : List Entry) (i : ℕ) (e : Event) → At xs i e → At (xs ++ ys) i e
at_more [] ys i e h = absurd h
at_more (x ∷ xs) ys zero e h = h
at_more (x ∷ xs) ys (suc i) e h = at_more xs ys i e h

pub at_last : (xs : List Entry) (x : Entry) → At (xs ++ x ∷ []) (length xs) x.event
at_last [] x = refl
at_last (y ∷ xs) x = at_last xs x

pub flights_more : (es fs : List Entry) (os : List JournalRef) (ls : List Flight)
    → AreFlights es os ls → AreFlights (es ++ fs) os ls
flights_more es fs [] [] h = tt
flights_more es fs (o ∷ os) (l ∷ ls) h =
    (h.0, at_more es fs o.entry (Take l.number l.series) h.1, flights_more es fs os ls h.2)
flights_more es fs os ls h = absurd h

pub flights_push : (es : List Entry) (os : List JournalRef) (ls : List Flight) (o : JournalRef)
    (l : Flight) → AreFlights es os ls → o.number ≡ l.number
    → At es o.entry (Take l.number l.series) → AreFlights es (os ++ o ∷ []) (ls ++ l ∷ [])
flights_push es [] [] o l h n a = (n, a, tt)
flights_push es (p ∷ os) (m ∷ ls) o l h n a = (h.0, h.1, flights_push es os ls o l h.2 n a)
flights_push es os ls o l h n a = absurd h

pub flights_closed : (es : List Entry) (os : List JournalRef) (ls : List Flight) (f : ℕ)
    → AreFlights es os ls
    → AreFlights es (filter (is_other_open f) os) (filter (is_other_flight f) ls)
flights_closed es [] [] f h = tt
flights_closed es [] (l ∷ ls) f h = absurd h
flights_closed es (o ∷ os) [] f h = absurd h
flights_closed es (o ∷ os) (l ∷ ls) f h = both (o.number == f) refl (flights_closed es os ls f h.2)
  where
    both : (v : Bool) → (o.number == f) ≡ v
        → AreFlights es (filter (is_other_open f) os) (filter (is_other_flight f) ls)
        → AreFlights es (filter (is_other_open f) (o ∷ os))
        (filter (is_other_flight f) (l ∷ ls))
    both true e r = let m : (l.number == f) ≡ true = subst (λ k. (k == f) ≡ true) h.0 e in
        rw (e, m) r
    both false e r = let m : (l.number == f) ≡ false = subst (λ k. (k == f) ≡ false) h.0 e in
        rw (e, m) (h.0, h.1, r)

pub flights_length : (es : List Entry) (os : List JournalRef) (ls : List Flight)
    → AreFlights es os ls → length os ≡ length ls
flights_length es [] [] h = refl
flights_length es (o ∷ os) (l ∷ ls) h = omega (arith, flights_length es os ls h.2)
flights_length es os ls h = absurd h

pub named_here : (xs : List Entry) (i : ℕ) (x : Entry) → i < length xs → x ≡ get_or xs i x
    → series_named xs i ≡ series_of_event x.event
named_here [] i x l e = absurd (omega (arith, l))
named_here (y ∷ xs) zero x l e = ap (λ (z : Entry). series_of_event z.event) (sym e)
named_here (y ∷ xs) (suc i) x l e = named_here xs i x (omega arith) e

pub named_none : (xs : List Entry) (i : ℕ) → length xs ≤ i → series_named xs i ≡ []
named_none [] i l = refl
named_none (y ∷ xs) zero l = absurd (omega arith)
named_none (y ∷ xs) (suc i) l = named_none xs i (omega arith)

pub admits_here : (xs : List Entry) (i : ℕ) (x : Entry) → i < length xs → x ≡ get_or xs i x
    → points_named xs i ≡ points_of_event x.event
admits_here [] i x l e = absurd (omega (arith, l))
admits_here (y ∷ xs) zero x l e = ap (λ (z : Entry). points_of_event z.event) (sym e)
admits_here (y ∷ xs) (suc i) x l e = admits_here xs i x (omega arith) e

pub admits_none : (xs : List Entry) (i : ℕ) → length xs ≤ i → points_named xs i ≡ []
admits_none [] i l = refl
admits_none (y ∷ xs) zero l = absurd (omega arith)
admits_none (y ∷ xs) (suc i) l = admits_none xs i (omega arith)
