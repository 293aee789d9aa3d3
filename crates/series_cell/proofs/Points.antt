-- Lists of points of one series.
use Rattle.std.proofs.Common.{◌≡◌, ℕ, ◌<◌, ◌≤◌, Bool, true, false, cond, ◌&&◌, List, [], ◌∷◌, ◌++◌}
use Rattle.std.proofs.Common.{map, filter, length, remove, max, refl, ap, sym, ◌∙◌, subst, arith}
use Rattle.std.proofs.Common.{get_or, zero, suc}
use Rattle.std.specs.List.{list_all}
use Rattle.std.specs.Prelude.{nat_le}
use Rattle.std.proofs.lemmas.Bool.{and_parts, and_from, leb-true, le-leb}
use Rattle.series_id.specs.Identity.{Identity, row_length}
use Rattle.metric_events.specs.Interval.{IsInterval}
use Rattle.metric_events.specs.DataPoint.{DataPoint}
use Rattle.metric_events.specs.Rows.{add_rows, zeros}
use Rattle.metric_events.specs.Points.{at, is_home, is_in_flight, landed}
use Rattle.metric_events.specs.Series.{row_sum}
use Rattle.metric_events.specs.Standing.{stands}
use Rattle.metric_events.specs.declared.place.Place.{Place}
use Rattle.metric_events.specs.declared.place.Place.TheVariants.{Home, InFlight}
use Rattle.metric_events.specs.declared.accepted.Accepted.{Accepted}
use Rattle.metric_events.proofs.Lists.{all_append, all_first, all_last}
use Rattle.metric_events.proofs.Sums.{row_sum-append, row_sum_long, add_rows-comm, add_rows-zeros}
use Rattle.metric_events.proofs.Sums.{add_rows_longer, add_rows_swap, length-zeros, length-add_rows}
use Rattle.metric_events.proofs.Intervals.{ends_after}
use Rattle.series_cell.specs.Cells.{AllOwn, InOrder, starts_from, greatest_end, is_landed, lifted}
use Rattle.series_cell.specs.Spans.{span_of, end_of_spans, place_of, AreInOrder}
use Rattle.series_cell.specs.declared.batch_span.BatchSpan.{BatchSpan}

-- whose points, and of what

pub all_own-append : (s : List ℕ) (x : Identity) (qs rs : List Accepted) → AllOwn s x qs
    → AllOwn s x rs → AllOwn s x (qs ++ rs)
all_own-append s x [] rs h k = k
all_own-append s x (a ∷ qs) rs h k = (h.0, all_own-append s x qs rs h.1 k)

pub all_own_first : (s : List ℕ) (x : Identity) (qs rs : List Accepted) → AllOwn s x (qs ++ rs)
    → AllOwn s x qs
all_own_first s x [] rs h = tt
all_own_first s x (a ∷ qs) rs h = (h.0, all_own_first s x qs rs h.1)

pub all_own_last : (s : List ℕ) (x : Identity) (qs rs : List Accepted) → AllOwn s x (qs ++ rs)
    → AllOwn s x rs
all_own_last s x [] rs h = h
all_own_last s x (a ∷ qs) rs h = all_own_last s x qs rs h.1

-- a map that changes the place alone
pub record MovesOnly (f : Accepted → Accepted) : Type 0 where
  pub point : (a : Accepted) → (f a).point ≡ a.point
  pub batch : (a : Accepted) → (f a).batch ≡ a.batch
  pub sender : (a : Accepted) → (f a).sender ≡ a.sender

pub moves_at : (q : Place) → MovesOnly (at q)
moves_at q = record { point = λ a. refl; batch = λ a. refl; sender = λ a. refl }

pub moves_landed : (f : ℕ) (q : Place) → MovesOnly (landed f q)
moves_landed f q = record {
  point = λ a. elim (is_in_flight f a.place) as (λ v. (cond v (at q a) a).point ≡ a.point)
      [ true ↦ refl | false ↦ refl ];
  batch = λ a. elim (is_in_flight f a.place) as (λ v. (cond v (at q a) a).batch ≡ a.batch)
      [ true ↦ refl | false ↦ refl ];
  sender = λ a. elim (is_in_flight f a.place) as (λ v. (cond v (at q a) a).sender ≡ a.sender)
      [ true ↦ refl | false ↦ refl ];
}

pub moves_lifted : (f : ℕ) → MovesOnly (lifted f)
moves_lifted f = record {
  point = λ a. elim (is_home a.place) as (λ v. (cond v (at (InFlight f) a) a).point ≡ a.point)
      [ true ↦ refl | false ↦ refl ];
  batch = λ a. elim (is_home a.place) as (λ v. (cond v (at (InFlight f) a) a).batch ≡ a.batch)
      [ true ↦ refl | false ↦ refl ];
  sender = λ a. elim (is_home a.place) as (λ v. (cond v (at (InFlight f) a) a).sender ≡ a.sender)
      [ true ↦ refl | false ↦ refl ];
}

pub all_own-map : (s : List ℕ) (x : Identity) (f : Accepted → Accepted) → MovesOnly f
    → (qs : List Accepted) → AllOwn s x qs → AllOwn s x (map f qs)
all_own-map s x f m [] h = tt
all_own-map s x f m (a ∷ qs) h = (
  record {
    series = ap (λ (p : DataPoint). p.series) (m.point a) ∙ h.0.series;
    sender = m.sender a ∙ h.0.sender;
    span = subst (λ (p : DataPoint). IsInterval p.span) (sym (m.point a)) h.0.span;
    long = ap (λ (p : DataPoint). length p.row) (m.point a) ∙ h.0.long;
  },
  all_own-map s x f m qs h.1,
)

pub all_own_filter : (s : List ℕ) (x : Identity) (t : Accepted → Bool) (qs : List Accepted)
    → AllOwn s x qs → AllOwn s x (filter t qs)
all_own_filter s x t [] h = tt
all_own_filter s x t (a ∷ qs) h =
    elim (t a) as (λ v. AllOwn s x (cond v (a ∷ filter t qs) (filter t qs))) [
      | true ↦ (h.0, all_own_filter s x t qs h.1)
      | false ↦ all_own_filter s x t qs h.1
    ]

pub sum_length : (s : List ℕ) (x : Identity) (qs : List Accepted) → AllOwn s x qs
    → length (row_sum (row_length x.kind) qs) ≡ row_length x.kind
sum_length s x [] h = length-zeros (row_length x.kind)
sum_length s x (a ∷ qs) h = length-add_rows a.point.row (row_sum (row_length x.kind) qs)
    (row_length x.kind) h.0.long (sum_length s x qs h.1)

-- sums

pub sum-moved : (n : ℕ) (f : Accepted → Accepted) → MovesOnly f → (qs : List Accepted)
    → row_sum n (map f qs) ≡ row_sum n qs
sum-moved n f m [] = refl
sum-moved n f m (a ∷ qs) = ap (λ (p : DataPoint). add_rows p.row (row_sum n (map f qs))) (m.point a)
    ∙ ap (add_rows a.point.row) (sum-moved n f m qs)

-- a point taken out of the middle
pub sum_out : (n : ℕ) (before after : List Accepted) (a : Accepted)
    → row_sum n (before ++ a ∷ after) ≡ add_rows a.point.row (row_sum n (before ++ after))
sum_out n [] after a = refl
sum_out n (b ∷ before) after a = ap (add_rows b.point.row) (sum_out n before after a)
    ∙ add_rows_swap b.point.row a.point.row (row_sum n (before ++ after))

-- one more point at the end
pub row_sum_push : (n : ℕ) (qs : List Accepted) (a : Accepted)
    → row_sum n (qs ++ a ∷ []) ≡ add_rows (row_sum n qs) a.point.row
row_sum_push n qs a =
    let Long : List ℕ → Type 0 = λ row. n ≤ length row in
    row_sum-append n qs (a ∷ [])
    ∙ (ap (add_rows (row_sum n qs)) (add_rows-comm a.point.row (zeros n))
    ∙ (add_rows_swap (row_sum n qs) (zeros n) a.point.row
    ∙ add_rows-zeros n (add_rows (row_sum n qs) a.point.row)
    (subst Long (add_rows-comm a.point.row (row_sum n qs))
    (add_rows_longer a.point.row (row_sum n qs) n (row_sum_long n qs)))))

-- order, and the end of the last point, or what came before all

abbrev pub last_end : ℕ → List Accepted → ℕ
last_end before [] = before
last_end before (a ∷ qs) = last_end a.point.span.end qs

pub end_le_last : (s : List ℕ) (x : Identity) (d : ℕ) (qs : List Accepted) → AllOwn s x qs
    → list_all (starts_from d) qs ≡ true → InOrder qs → d ≤ last_end d qs
end_le_last s x d [] h k o = omega arith
end_le_last s x d (a ∷ qs) h k o =
    let p = and_parts (starts_from d a) (list_all (starts_from d) qs) k in
    omega (
      arith,
      leb-true d a.point.span.start p.0,
      ends_after a.point.span h.0.span,
      end_le_last s
          x a.point.span.end qs h.1 o.0 o.1,
    )

pub in_order_push : (s : List ℕ) (x : Identity) (d : ℕ) (qs : List Accepted) (a : Accepted)
    → AllOwn s x qs → InOrder qs → last_end d qs ≤ a.point.span.start → InOrder (qs ++ a ∷ [])
in_order_push s x d [] a h o l = (refl, tt)
in_order_push s x d (b ∷ qs) a h o l = (
  all_append (starts_from b.point.span.end) qs (a ∷ []) o.0
      (and_from (starts_from b.point.span.end a) true
      (le-leb b.point.span.end a.point.span.start
      (omega (arith, l, end_le_last s x b.point.span.end qs h.1 o.0 o.1))) refl),
  in_order_push s x b.point.span.end qs a h.1 o.1 l,
)

starts_map : (end : ℕ) (f : Accepted → Accepted) → MovesOnly f → (qs : List Accepted)
    → list_all (starts_from end) (map f qs) ≡ list_all (starts_from end) qs
starts_map end f m [] = refl
starts_map end f m (a ∷ qs) = ap (λ (p : DataPoint). nat_le' p) (m.point a)
    ∙ ap (λ v. starts_from end a && v) (starts_map end f m qs)
  where
    nat_le' : DataPoint → Bool
    nat_le' p = starts_from end (record {
      point = p;
      batch = a.batch;
      sender = a.sender;
      place =
          a.place;
    }) && list_all (starts_from end) (map f qs)

pub in_order-map : (f : Accepted → Accepted) → MovesOnly f → (qs : List Accepted) → InOrder qs
    → InOrder (map f qs)
in_order-map f m [] h = tt
in_order-map f m (a ∷ qs) h = (
  ap (λ (p : DataPoint). list_all (starts_from p.span.end) (map f qs)) (m.point a)
      ∙ (starts_map a.point.span.end f m qs ∙ h.0),
  in_order-map f m qs h.1,
)

pub in_order_without : (before after : List Accepted) (a : Accepted) → InOrder (before ++ a ∷ after)
    → InOrder (before ++ after)
in_order_without [] after a h = h.1
in_order_without (b ∷ before) after a h =
    let t = starts_from b.point.span.end in (
      all_append t before after (all_first t before (a ∷ after) h.0)
          (and_parts (t a) (list_all t after) (all_last t before (a ∷ after) h.0)).1,
      in_order_without
          before after a h.1,
    )

pub in_order_first : (qs rs : List Accepted) → InOrder (qs ++ rs) → InOrder qs
in_order_first [] rs h = tt
in_order_first (a ∷ qs) rs h =
    (all_first (starts_from a.point.span.end) qs rs h.0, in_order_first qs rs h.1)

pub in_order_last : (qs rs : List Accepted) → InOrder (qs ++ rs) → InOrder rs
in_order_last [] rs h = h
in_order_last (a ∷ qs) rs h = in_order_last qs rs h.1

-- each earlier point ends where a later one starts, or before
pub all_end_by : (before after : List Accepted) (a : Accepted) → InOrder (before ++ a ∷ after)
    → list_all (λ b. nat_le b.point.span.end a.point.span.start) before ≡ true
all_end_by [] after a o = refl
all_end_by (b ∷ before) after a o =
    let t = starts_from b.point.span.end in
    and_from (t a) _ (and_parts (t a) (list_all t after) (all_last t before (a ∷ after) o.0)).0
    (all_end_by before after a o.1)

-- the spans of points in order of time

later : (s : List ℕ) (x : Identity) (end : ℕ) (qs : List Accepted) (j : ℕ) (d : BatchSpan)
    → AllOwn s x qs → list_all (starts_from end) qs ≡ true → j < length (map span_of qs)
    → (end ≤ (get_or (map span_of qs) j d).span.start)
    × (end ≤ (get_or (map span_of qs) j d).span.end)
later s x end [] j d h k l = absurd (omega (arith, l))
later s x end (a ∷ qs) zero d h k l =
    let start = leb-true end a.point.span.start
    (and_parts (starts_from end a) (list_all (starts_from end) qs) k).0 in
    (start, omega (arith, start, ends_after a.point.span h.0.span))
later s x end (a ∷ qs) (suc j) d h k l =
    later s x end qs j d h.1 (and_parts (starts_from end a) (list_all (starts_from end) qs) k).1
    (omega arith)

in_turn : (s : List ℕ) (x : Identity) (qs : List Accepted) → AllOwn s x qs → InOrder qs
    → (i j : ℕ) (d : BatchSpan) → i ≤ j → j < length (map span_of qs)
    → ((get_or (map span_of qs) i d).span.start ≤ (get_or (map span_of qs) j d).span.start)
    × ((get_or (map span_of qs) i d).span.end ≤ (get_or (map span_of qs) j d).span.end)
in_turn s x [] h o i j d l b = absurd (omega (arith, b))
in_turn s x (a ∷ qs) h o zero zero d l b = (omega arith, omega arith)
in_turn s x (a ∷ qs) h o zero (suc j) d l b =
    let r = later s x a.point.span.end qs j d h.1 o.0 (omega arith) in
    (omega (arith, r.0, ends_after a.point.span h.0.span), r.1)
in_turn s x (a ∷ qs) h o (suc i) zero d l b = absurd (omega (arith, l))
in_turn s x (a ∷ qs) h o (suc i) (suc j) d l b =
    in_turn s x qs h.1 o.1 i j d (omega arith) (omega arith)

pub spans_in_order : (s : List ℕ) (x : Identity) (qs : List Accepted) → AllOwn s x qs → InOrder qs
    → AreInOrder (map span_of qs)
spans_in_order s x qs h o = record {
  starts = λ i j d l b. (in_turn s x qs h o i j d l b).0;
  ends = λ i j d l b. (in_turn s x qs h o i j d l b).1;
}

-- ends

pub greatest_end-append : (qs rs : List Accepted)
    → greatest_end (qs ++ rs) ≡ max (greatest_end qs) (greatest_end rs)
greatest_end-append [] rs = omega arith
greatest_end-append (a ∷ qs) rs = omega (arith, greatest_end-append qs rs)

pub greatest_end-map : (q : Place) (qs : List Accepted)
    → greatest_end (map (at q) qs) ≡ greatest_end qs
greatest_end-map q [] = refl
greatest_end-map q (a ∷ qs) = ap (λ n. max a.point.span.end n) (greatest_end-map q qs)

-- in order of time the last end is the greatest
last_is_greatest : (s : List ℕ) (x : Identity) (d : ℕ) (qs : List Accepted) → AllOwn s x qs
    → list_all (starts_from d) qs ≡ true → InOrder qs → max d (greatest_end qs) ≡ last_end d qs
last_is_greatest s x d [] h k o = omega arith
last_is_greatest s x d (a ∷ qs) h k o =
    let p = and_parts (starts_from d a) (list_all (starts_from d) qs) k in
    let le = end_le_last s x a.point.span.end qs h.1 o.0 o.1 in
    omega (
      arith,
      last_is_greatest s x a.point.span.end qs h.1 o.0 o.1,
      leb-true d
          a.point.span.start p.0,
      ends_after a.point.span h.0.span,
      le,
    )

all_start : (qs : List Accepted) → list_all (starts_from 0) qs ≡ true
all_start [] = refl
all_start (a ∷ qs) = and_from (starts_from 0 a) (list_all (starts_from 0) qs)
    (le-leb 0 a.point.span.start (omega arith)) (all_start qs)

pub last_greatest : (s : List ℕ) (x : Identity) (qs : List Accepted) → AllOwn s x qs → InOrder qs
    → last_end 0 qs ≡ greatest_end qs
last_greatest s x qs h o = omega (arith, last_is_greatest s x 0 qs h (all_start qs) o)

pub spans_end : (d : ℕ) (qs : List Accepted) → end_of_spans d (map span_of qs) ≡ last_end d qs
spans_end d [] = refl
spans_end d (a ∷ qs) = spans_end a.point.span.end qs

pub spans_moved : (f : Accepted → Accepted) → MovesOnly f → (qs : List Accepted)
    → map span_of (map f qs) ≡ map span_of qs
spans_moved f m [] = refl
spans_moved f m (a ∷ qs) =
    ap (λ (p : DataPoint). mark p (f a).batch ∷ map span_of (map f qs)) (m.point a)
    ∙ (ap (λ b. mark a.point b ∷ map span_of (map f qs)) (m.batch a)
    ∙ ap (λ ms. span_of a ∷ ms) (spans_moved f m qs))
  where
    mark : DataPoint → ℕ → BatchSpan
    mark p b = record { span = p.span; batch = b }

-- places

pub all_at : (t : Place → Bool) (q : Place) (qs : List Accepted) → t q ≡ true
    → list_all (stands t) (map (at q) qs) ≡ true
all_at t q [] h = refl
all_at t q (a ∷ qs) h = and_from (t q) (list_all (stands t) (map (at q) qs)) h (all_at t q qs h)

pub filter_at : (t : Place → Bool) (q : Place) (qs : List Accepted) → t q ≡ true
    → filter (stands t) (map (at q) qs) ≡ map (at q) qs
filter_at t q [] h = refl
filter_at t q (a ∷ qs) h = rw h (ap (λ rs. at q a ∷ rs) (filter_at t q qs h))

pub filter_off : (t : Place → Bool) (q : Place) (qs : List Accepted) → t q ≡ false
    → filter (stands t) (map (at q) qs) ≡ []
filter_off t q [] h = refl
filter_off t q (a ∷ qs) h = rw h (filter_off t q qs h)

-- a landing moves what is in flight, and a lifting off what is at home

pub landed-gone : (f : ℕ) (q : Place) (qs : List Accepted) → list_all (stands is_landed) qs ≡ true
    → map (landed f q) qs ≡ qs
landed-gone f q [] h = refl
landed-gone f q (a ∷ qs) h =
    let p = and_parts (is_landed a.place) (list_all (stands is_landed) qs) h in
    rw (off a.place p.0) (ap (λ rs. a ∷ rs) (landed-gone f q qs p.1))
  where
    off : (place : Place) → is_landed place ≡ true → is_in_flight f place ≡ false
    off (InFlight g) e = absurd (let k : false ≡ true = e in cc)
    off place e = refl

pub landed-home : (f : ℕ) (q : Place) (qs : List Accepted) → list_all (stands is_home) qs ≡ true
    → map (landed f q) qs ≡ qs
landed-home f q [] h = refl
landed-home f q (a ∷ qs) h =
    let p = and_parts (is_home a.place) (list_all (stands is_home) qs) h in
    rw (off a.place p.0) (ap (λ rs. a ∷ rs) (landed-home f q qs p.1))
  where
    off : (place : Place) → is_home place ≡ true → is_in_flight f place ≡ false
    off (InFlight g) e = absurd (let k : false ≡ true = e in cc)
    off place e = refl

pub landed-away : (f : ℕ) (q : Place) (qs : List Accepted)
    → list_all (stands (is_in_flight f)) qs ≡ true → map (landed f q) qs ≡ map (at q) qs
landed-away f q [] h = refl
landed-away f q (a ∷ qs) h =
    let p = and_parts (is_in_flight f a.place) (list_all (stands (is_in_flight f)) qs) h in
    rw p.0 (ap (λ rs. at q a ∷ rs) (landed-away f q qs p.1))

pub landed_off : (q : Place) → is_landed q ≡ true → is_home q ≡ false
landed_off Home e = absurd (let k : false ≡ true = e in cc)
landed_off q e = refl

pub lifted-gone : (f : ℕ) (qs : List Accepted) → list_all (stands is_landed) qs ≡ true
    → map (lifted f) qs ≡ qs
lifted-gone f [] h = refl
lifted-gone f (a ∷ qs) h =
    let p = and_parts (is_landed a.place) (list_all (stands is_landed) qs) h in
    rw (landed_off a.place p.0) (ap (λ rs. a ∷ rs) (lifted-gone f qs p.1))

pub lifted-home : (f : ℕ) (qs : List Accepted) → list_all (stands is_home) qs ≡ true
    → map (lifted f) qs ≡ map (at (InFlight f)) qs
lifted-home f [] h = refl
lifted-home f (a ∷ qs) h =
    let p = and_parts (is_home a.place) (list_all (stands is_home) qs) h in
    rw p.0 (ap (λ rs. at (InFlight f) a ∷ rs) (lifted-home f qs p.1))

-- where a point stands in two lists joined, the first of which it is not in

pub record IsPast (xs before : List Accepted) (a : Accepted) (ys after : List Accepted) : Type 0
  where
    pub between : List Accepted
    pub rest : ys ≡ between ++ a ∷ after
    pub first : before ≡ xs ++ between

pub past : (t : Accepted → Bool) (xs ys before after : List Accepted) (a : Accepted)
    → list_all t xs ≡ true → t a ≡ false → before ++ a ∷ after ≡ xs ++ ys
    → IsPast xs before a ys after
past t [] ys before after a h n e = record { between = before; rest = sym e; first = refl }
past t (x ∷ xs) ys [] after a h n e =
    let p = and_parts (t x) (list_all t xs) h in
    let same : a ≡ x = cc in
    absurd (let q : false ≡ true = sym n ∙ (ap t same ∙ p.0) in cc)
past t (x ∷ xs) ys (b ∷ before) after a h n e =
    let p = and_parts (t x) (list_all t xs) h in
    let same : b ≡ x = cc in
    let rest : before ++ a ∷ after ≡ xs ++ ys = cc in
    let r = past t xs ys before after a p.1 n rest in
    record {
      between = r.between;
      rest = r.rest;
      first =
          ap (λ y. y ∷ before) same ∙ ap (λ zs. x ∷ zs) r.first;
    }

-- the place of a span among others
pub place_at : (before after : List Accepted) (a : Accepted) → IsInterval a.point.span
    → list_all (λ b. nat_le b.point.span.end a.point.span.start) before ≡ true
    → place_of a.point.span.start (map span_of (before ++ a ∷ after)) ≡ length before
place_at [] after a i h = rw (not_by (nat_le a.point.span.end a.point.span.start) refl) refl
  where
    not_by : (v : Bool) → nat_le a.point.span.end a.point.span.start ≡ v
        → nat_le a.point.span.end a.point.span.start ≡ false
    not_by true e = absurd
        (omega (arith, leb-true a.point.span.end a.point.span.start e, ends_after a.point.span i))
    not_by false e = e
place_at (b ∷ before) after a i h =
    let p = and_parts (nat_le b.point.span.end a.point.span.start)
    (list_all (λ b. nat_le b.point.span.end a.point.span.start) before) h in
    rw p.0 (omega (arith, place_at before after a i p.1))

pub remove_at : (xs zs : List BatchSpan) (m : BatchSpan)
    → remove (xs ++ m ∷ zs) (length xs) ≡ xs ++ zs
remove_at [] zs m = refl
remove_at (x ∷ xs) zs m = ap (λ ys. x ∷ ys) (remove_at xs zs m)
