-- What an open batch brought, series by series: in each it is at home whole, or not at all.
use Rattle.std.proofs.Common.{◌≡◌, ℕ, ◌<◌, ◌==◌, Bool, true, false, not, cond, ◌&&◌, ◌||◌, List, []}
use Rattle.std.proofs.Common.{◌∷◌, ◌++◌, map, filter, length, get_or, refl, ap, sym, ◌∙◌, subst}
use Rattle.std.proofs.Common.{inl, inr}
use Rattle.std.specs.List.{list_all, list_any}
use Rattle.std.proofs.lemmas.Bool.{and_parts, and_from, or_left, or_right, eqb-true, eq-eqb}
use Rattle.std.proofs.lemmas.Bool.{false_from_ne_true}
use Rattle.std.proofs.Math.Bool.{or-false}
use Rattle.std.proofs.lemmas.List.Folds.{list_any-append, list_any_at}
use Rattle.std.proofs.lemmas.List.Elements.{filter-append}
use Rattle.series_id.specs.Identity.{Identity}
use Rattle.series_id.specs.Order.{same_series}
use Rattle.series_id.proofs.Order.{same_series-exact}
use Rattle.metric_events.specs.DataPoint.{DataPoint}
use Rattle.metric_events.specs.History.{History, Opened, ◌▸◌, opening}
use Rattle.metric_events.specs.Points.{points, opened_points, admitted, at, landed, taken}
use Rattle.metric_events.specs.Points.{is_of_other_batch, is_home, is_in_flight, is_among}
use Rattle.metric_events.specs.Series.{is_of, of_series}
use Rattle.metric_events.specs.Legal.{IsLegal, is_batch_home}
use Rattle.metric_events.specs.declared.place.Place.{Place}
use Rattle.metric_events.specs.declared.place.Place.TheVariants.{Home, InFlight, Acknowledged}
use Rattle.metric_events.specs.declared.place.Place.TheVariants.{Dropped}
use Rattle.metric_events.specs.declared.accepted.Accepted.{Accepted}
use Rattle.metric_events.specs.declared.batch.Batch.{Batch}
use Rattle.metric_events.specs.declared.event.Event.TheVariants.{Admit, Undo, Take, Settle, Drop}
use Rattle.metric_events.specs.declared.event.Event.TheVariants.{GiveBack}
use Rattle.metric_events.proofs.Lists.{all_first, all_last, all_filter, all_always, all_weaker}
use Rattle.metric_events.proofs.Lists.{any_none, filter_none, filter_keeps, both_at}
use Rattle.metric_events.proofs.Lists.{any_from_filter, any_all_not}
use Rattle.metric_events.proofs.Invariants.{new_points, all_admitted}
use Rattle.metric_events.proofs.Opened.{opened_of_no_batch}
use Rattle.metric_events.proofs.Identities.{same_of}
use Rattle.series_cell.specs.Cells.{CellView, Stands, AreTogether, is_of_batch}
use Rattle.series_cell.proofs.Points.{MovesOnly, moves_landed}
use Rattle.delta_book.specs.inner.Batches.{is_point_of}
use Rattle.delta_book.specs.Tables.{AreCells, id_of}
use Rattle.delta_book.specs.inner.Tables.{IdAt, IsEntered, HasPending}
use Rattle.delta_book.proofs.Tables.{agree, stands_at, at_id}
use Rattle.delta_book.proofs.Asked.{none_of}
use Rattle.delta_book.proofs.CountedSeries.{listed-admitted}
use Rattle.delta_book.proofs.Batch.{Whole, moves_taken}
use Rattle.delta_book.proofs.Entries.{by_second}

-- the points of one batch and series are in one place

abbrev pub is_both : ℕ → Identity → Accepted → Bool
is_both b x a = (a.batch == b) && is_of x a

abbrev pub AllAt : Place → ℕ → Identity → List Accepted → Type 0
AllAt q b x [] = Unit {0}
AllAt q b x (a ∷ qs) = (is_both b x a ≡ true → a.place ≡ q) × AllAt q b x qs

at_append : (q : Place) (b : ℕ) (x : Identity) (qs rs : List Accepted) → AllAt q b x qs
    → AllAt q b x rs → AllAt q b x (qs ++ rs)
at_append q b x [] rs h k = k
at_append q b x (a ∷ qs) rs h k = (h.0, at_append q b x qs rs h.1 k)

at_none : (q : Place) (b : ℕ) (x : Identity) (qs : List Accepted)
    → list_all (is_of_other_batch b) qs ≡ true → AllAt q b x qs
at_none q b x [] h = tt
at_none q b x (a ∷ qs) h =
    let p = and_parts (not (a.batch == b)) (list_all (is_of_other_batch b) qs) h in (
      (λ e. absurd (let n : not true ≡ true =
          subst (λ v. not v ≡ true) (and_parts (a.batch == b) (is_of x a) e).0 p.0 in
          let z : false ≡ true = n in cc)),
      at_none q b x qs p.1,
    )

at_new : (b c : ℕ) (x : Identity) (s : List ℕ) (ps : List DataPoint)
    → AllAt Home b x (map (admitted c s) ps)
at_new b c x s [] = tt
at_new b c x s (p ∷ ps) = ((λ e. refl), at_new b c x s ps)

at_filter : (q : Place) (b : ℕ) (x : Identity) (t : Accepted → Bool) (qs : List Accepted)
    → AllAt q b x qs → AllAt q b x (filter t qs)
at_filter q b x t [] h = tt
at_filter q b x t (a ∷ qs) h =
    elim (t a) as (λ v. AllAt q b x (cond v (a ∷ filter t qs) (filter t qs))) [
      | true ↦ (h.0, at_filter q b x t qs h.1)
      | false ↦ at_filter q b x t qs h.1
    ]

at_moved : (g : Accepted → Accepted) → MovesOnly g → (q r : Place) (b : ℕ) (x : Identity)
    → ((a : Accepted) → a.point.series ≡ x → a.place ≡ q → (g a).place ≡ r) → (qs : List Accepted)
    → AllAt q b x qs → AllAt r b x (map g qs)
at_moved g m q r b x k [] h = tt
at_moved g m q r b x k (a ∷ qs) h = (first, at_moved g m q r b x k qs h.1)
  where
    first : is_both b x (g a) ≡ true → (g a).place ≡ r
    first e =
        let f : is_both b x a ≡ true = ap (λ c. (c == b) && is_of x a) (sym (m.batch a))
        ∙ (ap (λ (p : DataPoint). ((g a).batch == b) && same_series p.series x)
        (sym (m.point a)) ∙ e) in
        k a (same_series-exact a.point.series x (and_parts (a.batch == b) (is_of x a) f).1) (h.0 f)

abbrev pub taken_to : ℕ → List Identity → Identity → Place → Place
taken_to f series x q = cond (is_home q && is_among x series) (InFlight f) q

abbrev pub landed_to : ℕ → Place → Place → Place
landed_to f to q = cond (is_in_flight f q) to q

place_of_at : (v : Bool) (p : Place) (a : Accepted) → (cond v (at p a) a).place ≡ cond v p a.place
place_of_at true p a = refl
place_of_at false p a = refl

at_taken : (f : ℕ) (series : List Identity) (q : Place) (x : Identity) (a : Accepted)
    → a.point.series ≡ x → a.place ≡ q → (taken f series a).place ≡ taken_to f series x q
at_taken f series q x a e p = place_of_at (is_home a.place && is_among a.point.series series)
    (InFlight f) a ∙ (ap (λ y. cond (is_home a.place && is_among y series) (InFlight f) a.place) e
    ∙ ap (λ r. cond (is_home r && is_among x series) (InFlight f) r) p)

at_landed : (f : ℕ) (to q : Place) (a : Accepted) → a.place ≡ q
    → (landed f to a).place ≡ landed_to f to q
at_landed f to q a p =
    place_of_at (is_in_flight f a.place) to a ∙ ap (λ r. cond (is_in_flight f r) to r) p

all_at_landed : (f : ℕ) (to : Place) (b : ℕ) (x : Identity) (qs : List Accepted)
    → (q : Place) × AllAt q b x qs → (q : Place) × AllAt q b x (map (landed f to) qs)
all_at_landed f to b x qs h = (
  landed_to f to h.0,
  at_moved (landed f to) (moves_landed f to) h.0
      (landed_to f to h.0) b x (λ a e p. at_landed f to h.0 a p) qs h.1,
)

pub all_at : (E : History) → IsLegal E → (b : ℕ) (x : Identity) → (opening E).batches < b
    → (q : Place) × AllAt q b x (points E)
all_at (Opened O) l b x u = (Home, at_none Home b x (opened_points O) (opened_of_no_batch b O u))
all_at (E ▸ Admit c body) l b x u = both (c == b) refl (all_at E l.0 b x u)
  where
    both : (v : Bool) → (c == b) ≡ v → (q : Place) × AllAt q b x (points E)
        → (q : Place) × AllAt q b x (points E ++ map (admitted c body.sender) body.points)
    both true e h = (
      Home,
      at_append Home b x (points E) (map (admitted c body.sender) body.points)
          (at_none Home b x (points E)
          (subst (λ n. list_all (is_of_other_batch n) (points E) ≡ true)
          (eqb-true c b e) (new_points c E l.1.fresh))) (at_new b c x body.sender body.points),
    )
    both false e h = (
      h.0,
      at_append h.0 b x (points E) (map (admitted c body.sender) body.points)
          h.1 (at_none h.0 b x (map (admitted c body.sender) body.points)
          (all_admitted b c body.sender body.points
          (λ k. absurd (let z : true ≡ false = sym (eq-eqb c b k) ∙ e in cc)))),
    )
all_at (E ▸ Undo c) l b x u = let h = all_at E l.0 b x u in
    (h.0, at_filter h.0 b x (is_of_other_batch c) (points E) h.1)
all_at (E ▸ Take f series) l b x u = let h = all_at E l.0 b x u in (
  taken_to f series x h.0,
  at_moved (taken f series) (moves_taken f series) h.0
      (taken_to f series x h.0) b x (at_taken f series h.0 x) (points E) h.1,
)
all_at (E ▸ Settle f) l b x u = all_at_landed f Acknowledged b x (points E) (all_at E l.0 b x u)
all_at (E ▸ Drop f) l b x u = all_at_landed f Dropped b x (points E) (all_at E l.0 b x u)
all_at (E ▸ GiveBack f) l b x u = all_at_landed f Home b x (points E) (all_at E l.0 b x u)
all_at (E ▸ e) l b x u = all_at E l.0 b x u

of_place : (t : Place → Bool) (q : Place) (b : ℕ) (x : Identity) → t q ≡ true → (qs : List Accepted)
    → AllAt q b x qs → list_all (λ a. not (a.batch == b) || t a.place) (of_series x qs) ≡ true
of_place t q b x e [] h = refl
of_place t q b x e (a ∷ qs) h =
    both (is_of x a) (a.batch == b) refl refl (of_place t q b x e qs h.1)
  where
    both : (v w : Bool) → is_of x a ≡ v → (a.batch == b) ≡ w
        → list_all (λ a. not (a.batch == b) || t a.place) (of_series x qs) ≡ true
        → list_all (λ a. not (a.batch == b) || t a.place) (of_series x (a ∷ qs)) ≡ true
    both true true m n r =
        let p : t a.place ≡ true = ap t (h.0 (and_from (a.batch == b) (is_of x a) n m)) ∙ e in
        rw m (and_from (not (a.batch == b) || t a.place)
        (list_all (λ a. not (a.batch == b) || t a.place) (of_series x qs))
        (or_right (not (a.batch == b)) (t a.place) p) r)
    both true false m n r = rw m (and_from (not (a.batch == b) || t a.place)
        (list_all (λ a. not (a.batch == b) || t a.place) (of_series x qs))
        (or_left (not (a.batch == b)) (t a.place) (ap not n)) r)
    both false w m n r = rw m r

together_at : (q : Place) (b : ℕ) (x : Identity) (qs : List Accepted) → AllAt q b x qs
    → AreTogether b (of_series x qs)
together_at q b x qs h = by (is_home q) refl
  where
    by : (v : Bool) → is_home q ≡ v → AreTogether b (of_series x qs)
    by true e = inl (of_place is_home q b x e qs h)
    by false e = inr (of_place (λ p. not (is_home p)) q b x (ap not e) qs h)

-- a batch's points by series

abbrev pub is_home_at : List Accepted → ℕ → DataPoint → Bool
is_home_at qs b p = is_batch_home b (of_series p.series qs)

abbrev pub is_fine : ℕ → Accepted → Bool
is_fine b a = not (a.batch == b) || is_home a.place

each_fine : (b : ℕ) (qs : List Accepted)
    → ((x : Identity) → list_any (is_of_batch b) (of_series x qs) ≡ true
    → list_all (is_fine b) (of_series x qs) ≡ true) → list_all (is_fine b) qs ≡ true
each_fine b [] k = refl
each_fine b (a ∷ qs) k = and_from (is_fine b a) (list_all (is_fine b) qs)
    (first (a.batch == b) refl) (each_fine b qs rest)
  where
    own : is_of a.point.series a ≡ true
    own = same_of a.point.series a.point.series refl

    first : (v : Bool) → (a.batch == b) ≡ v → is_fine b a ≡ true
    first false e = or_left (not (a.batch == b)) (is_home a.place) (ap not e)
    first true e =
        let some : list_any (is_of_batch b) (of_series a.point.series (a ∷ qs)) ≡ true =
        rw own (or_left (a.batch == b) (list_any (is_of_batch b) (of_series a.point.series qs))
        e) in
        let all : list_all (is_fine b) (a ∷ of_series a.point.series qs) ≡ true =
        rw own at (k a.point.series some) in
        (and_parts (is_fine b a) (list_all (is_fine b) (of_series a.point.series qs)) all).0

    rest : (x : Identity) → list_any (is_of_batch b) (of_series x qs) ≡ true
        → list_all (is_fine b) (of_series x qs) ≡ true
    rest x m = by (is_of x a) refl
      where
        by : (v : Bool) → is_of x a ≡ v → list_all (is_fine b) (of_series x qs) ≡ true
        by true e =
            let some : list_any (is_of_batch b) (of_series x (a ∷ qs)) ≡ true =
            rw e (or_right (a.batch == b) (list_any (is_of_batch b) (of_series x qs)) m) in
            let all : list_all (is_fine b) (a ∷ of_series x qs) ≡ true = rw e at (k x some) in
            (and_parts (is_fine b a) (list_all (is_fine b) (of_series x qs)) all).1
        by false e =
            let some : list_any (is_of_batch b) (of_series x (a ∷ qs)) ≡ true = rw e m in
            let all : list_all (is_fine b) (of_series x qs) ≡ true = rw e at (k x some) in all

pub home_by_series : (qs : List Accepted) (b : ℕ) (ps : List DataPoint) → IsEntered qs b ps
    → list_all (is_home_at qs b) ps ≡ is_batch_home b qs
home_by_series qs b ps h = agree
    (λ f. each_fine b qs (λ x m. both_at (is_point_of x) (is_home_at qs b)
    (list_all (is_fine b) (of_series x qs) ≡ true)
    (λ p i j. subst (λ y. list_all (is_fine b) (of_series y qs) ≡ true)
    (same_series-exact p.series x i) j) ps (sym (h.its x) ∙ m) f))
    (λ e. all_always (is_home_at qs b) (λ p. all_filter (is_fine b) (is_of p.series) qs e) ps)

pub home_here : (cs : List CellView) (qs : List Accepted) (b i : ℕ) (c : CellView) (x : Identity)
    (v : Bool) → AreCells cs qs → i < length cs → c ≡ get_or cs i c → IdAt cs i x
    → ((rs : List Accepted) → Stands c rs → list_any (is_of_batch b) rs ≡ true
    → AreTogether b rs → v ≡ is_batch_home b rs)
    → list_any (is_of_batch b) (of_series x qs) ≡ true → AreTogether b (of_series x qs)
    → v ≡ is_batch_home b (of_series x qs)
home_here cs qs b i c x v h l e a k m t =
    k (of_series x qs) (subst (λ y. Stands c (of_series y qs)) (at_id cs i c x a e)
    (stands_at cs qs i c l e h.stand)) m t

pub home_none : (cs : List CellView) (qs : List Accepted) (b : ℕ) (x : Identity) → AreCells cs qs
    → is_among x (map id_of cs) ≡ false → true ≡ is_batch_home b (of_series x qs)
home_none cs qs b x h n = ap (is_batch_home b)
    (sym (filter_none (is_of x) qs (any_none (is_of x) qs (none_of cs qs x h n))))

-- an open batch is entered

any_other : (b : ℕ) (x : Identity) (qs : List Accepted) → list_all (is_of_other_batch b) qs ≡ true
    → list_any (is_of_batch b) (of_series x qs) ≡ false
any_other b x qs h = any_from_filter (is_of_batch b) (is_of x) qs
    (false_from_ne_true _ (λ m. any_all_not (is_of_batch b) qs m h))

any_own : (b : ℕ) (x : Identity) (qs : List Accepted) → list_all (is_of_batch b) qs ≡ true
    → list_any (is_of_batch b) (of_series x qs) ≡ list_any (is_of x) (map (at Home) qs)
any_own b x [] h = refl
any_own b x (a ∷ qs) h = both (is_of x a) refl (any_own b x qs p.1)
  where
    p : ((a.batch == b) ≡ true) × (list_all (is_of_batch b) qs ≡ true)
    p = and_parts (a.batch == b) (list_all (is_of_batch b) qs) h

    both : (v : Bool) → is_of x a ≡ v
        → list_any (is_of_batch b) (of_series x qs) ≡ list_any (is_of x) (map (at Home) qs)
        → list_any (is_of_batch b) (of_series x (a ∷ qs))
        ≡ (is_of x a || list_any (is_of x) (map (at Home) qs))
    both true e r = rw (e, p.0) refl
    both false e r = rw e r

pub entered : (E : History) (b : ℕ) (body : Batch) → IsLegal E → (opening E).batches < b
    → Whole (points E) b body → IsEntered (points E) b body.points
entered E b body l u w = record {
  its = λ x.
      ap (λ rs. list_any (is_of_batch b) (of_series x rs)) w.parts
      ∙ (ap (list_any (is_of_batch b))
      (filter-append (is_of x) w.before (w.its ++ w.after)
      ∙ ap (λ rs. of_series x w.before ++ rs) (filter-append (is_of x) w.its w.after))
      ∙ (list_any-append (is_of_batch b) (of_series x w.before)
      (of_series x w.its ++ of_series x w.after)
      ∙ (ap (λ v. v || list_any (is_of_batch b) (of_series x w.its ++ of_series x w.after))
      (any_other b x w.before w.none_before)
      ∙ (list_any-append (is_of_batch b) (of_series x w.its) (of_series x w.after)
      ∙ (ap (λ v. list_any (is_of_batch b) (of_series x w.its) || v)
      (any_other b x w.after w.none_after)
      ∙ (or-false (list_any (is_of_batch b) (of_series x w.its))
      ∙ (any_own b x w.its w.of_it
      ∙ (ap (list_any (is_of x)) w.are ∙ listed-admitted x b body.sender body.points))))))));
  together = λ x. let h = all_at E l b x u in together_at h.0 b x (points E) h.1;
}

-- what is at home stands as it was admitted

home_same : (b : ℕ) (qs : List Accepted) → list_all (is_of_batch b) qs ≡ true
    → is_batch_home b qs ≡ true → map (at Home) qs ≡ qs
home_same b [] h k = refl
home_same b (a ∷ qs) h k =
    let p = and_parts (a.batch == b) (list_all (is_of_batch b) qs) h in
    let q = and_parts (is_fine b a) (is_batch_home b qs) k in
    ap (λ rs. at Home a ∷ rs) (home_same b qs p.1 q.1)
    ∙ ap (λ r. record { point = a.point; batch = a.batch; sender = a.sender; place = r } ∷ qs)
    (by a.place (by_second (a.batch == b) (is_home a.place) p.0 q.0))
  where
    by : (r : Place) → is_home r ≡ true → Home ≡ r
    by Home e = refl
    by r e = absurd (let z : false ≡ true = e in cc)

pub parts_at_home : (qs : List Accepted) (b : ℕ) (body : Batch) → (w : Whole qs b body)
    → is_batch_home b qs ≡ true
    → qs ≡ w.before ++ (map (admitted b body.sender) body.points ++ w.after)
parts_at_home qs b body w h =
    w.parts
    ∙ ap (λ rs. w.before ++ (rs ++ w.after)) (sym (home_same b w.its w.of_it middle) ∙ w.are)
  where
    whole : is_batch_home b (w.before ++ (w.its ++ w.after)) ≡ true
    whole = sym (ap (is_batch_home b) w.parts) ∙ h

    middle : is_batch_home b w.its ≡ true
    middle = all_first (is_fine b) w.its w.after
        (all_last (is_fine b) w.before (w.its ++ w.after) whole)

pub rest_is : (qs : List Accepted) (b : ℕ) (body : Batch) → (w : Whole qs b body)
    → filter (is_of_other_batch b) qs ≡ w.before ++ w.after
rest_is qs b body w =
    ap (filter (is_of_other_batch b)) w.parts
    ∙ (filter-append (is_of_other_batch b) w.before (w.its ++ w.after)
    ∙ (ap (λ rs. rs ++ filter (is_of_other_batch b) (w.its ++ w.after))
    (filter_keeps (is_of_other_batch b) w.before w.none_before)
    ∙ ap (λ rs. w.before ++ rs) (filter-append (is_of_other_batch b) w.its w.after
    ∙ (ap (λ rs. rs ++ filter (is_of_other_batch b) w.after)
    (filter_none (is_of_other_batch b) w.its
    (all_weaker (is_of_batch b) (λ a. not (is_of_other_batch b a))
    (λ a e. ap (λ v. not (not v)) e) w.its w.of_it))
    ∙ filter_keeps (is_of_other_batch b) w.after w.none_after))))

pub removes_all : (cs : List CellView) (qs : List Accepted) (b : ℕ) (body : Batch) → AreCells cs qs
    → (w : Whole qs b body) → is_batch_home b qs ≡ true → HasPending cs b body.points
removes_all cs qs b body h w k =
    (body.sender, (w.before, (w.after, subst (AreCells cs) (parts_at_home qs b body w k) h)))

-- the series of a point of the batch has a point of it

pub point_there : (ps : List DataPoint) (i : ℕ) (p : DataPoint) → i < length ps → p ≡ get_or ps i p
    → list_any (is_point_of p.series) ps ≡ true
point_there ps i p l e = list_any_at (is_point_of p.series) ps i p l
    (same_of (get_or ps i p).series p.series (ap (λ (r : DataPoint). r.series) (sym e)))

pub some_of_it : (qs : List Accepted) (b : ℕ) (ps : List DataPoint) (i : ℕ) (p : DataPoint)
    → i < length ps → p ≡ get_or ps i p → IsEntered qs b ps
    → list_any (is_of_batch b) (of_series p.series qs) ≡ true
some_of_it qs b ps i p l e h = h.its p.series ∙ point_there ps i p l e

pub found_home : (qs : List Accepted) (b : ℕ) (ps : List DataPoint) (i : ℕ) (p : DataPoint)
    (x : Identity) (v w : Bool) → i < length ps → p ≡ get_or ps i p → IsEntered qs b ps
    → x ≡ p.series → (list_any (is_of_batch b) (of_series x qs) ≡ true
    → AreTogether b (of_series x qs) → v ≡ is_batch_home b (of_series x qs)) → v ≡ w
    → is_home_at qs b p ≡ w
found_home qs b ps i p x v w l e h s k m =
    sym (k (subst (λ y. list_any (is_of_batch b) (of_series y qs) ≡ true) (sym s)
    (some_of_it qs b ps i p l e h)) (h.together x)
    ∙ ap (λ y. is_batch_home b (of_series y qs)) s) ∙ m
