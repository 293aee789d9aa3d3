-- Reading groups gives the same as reading their members.
use Rattle.std.proofs.Common.{◌≡◌, ℕ, Bool, true, false, cond, List, [], ◌∷◌, ◌++◌, map, Result, Ok}
use Rattle.std.proofs.Common.{Some, Option, refl, sym, ap, ◌∙◌, append_assoc}
use Rattle.std.specs.List.{AllByRecursion, flat_map, list_all}
use Rattle.std.proofs.lemmas.List.{append-nil, map-append}
use Rattle.serde_json.specs.Data.{Data}
use Rattle.serde_json.specs.View.{items_of}
use Rattle.series_id.proofs.Refusals.{each_more}
use Rattle.metric_events.specs.DataPoint.{DataPoint}
use Rattle.otlp_read.specs.declared.place.Place.{Place}
use Rattle.otlp_read.specs.Containers.{elements, is_object}
use Rattle.otlp_read.specs.Tallies.{Tally, each_point}
use Rattle.otlp_read.specs.Lists.{all_of}
use Rattle.otlp_read.specs.Reading.{each}
use Rattle.out_texts.specs.Groups.{members, put_before, groups}
use Rattle.out_texts.specs.Back.{point_read}

-- ---- groups

put_flat : {X : Type 0} (same : X → X → Bool) (x : X) (gs : List (X × List X))
    → flat_map members (put_before same x gs) ≡ x ∷ flat_map members gs
put_flat same x [] = refl
put_flat same x (g ∷ gs) = by (same x g.0)
  where
    by : (b : Bool) → flat_map members (cond b ((x, members g) ∷ gs) ((x, []) ∷ g ∷ gs))
        ≡ x ∷ flat_map members (g ∷ gs)
    by true = refl
    by false = refl

-- the groups hold what was grouped, in order
pub groups_flat : {X : Type 0} (same : X → X → Bool) (xs : List X)
    → flat_map members (groups same xs) ≡ xs
unfolding groups
groups_flat same [] = refl
groups_flat same (x ∷ xs) =
    put_flat same x (groups same xs) ∙ ap (λ ys. x ∷ ys) (groups_flat same xs)

-- what each member of a group has: what it had before, and the key of the first
abbrev pub Shares : {X K : Type 0} → (X → K) → (X → Type 0) → (X × List X) → Type 0
Shares key P g = AllByRecursion (λ x. P x × (key x ≡ key g.0)) (members g)

put_shares : {X K : Type 0} (key : X → K) (same : X → X → Bool)
    → ((x y : X) → same x y ≡ true → key x ≡ key y) → (P : X → Type 0) (x : X) → P x
    → (gs : List (X × List X)) → AllByRecursion (Shares key P) gs
    → AllByRecursion (Shares key P) (put_before same x gs)
put_shares key same exact P x px [] h = (((px, refl), tt), tt)
put_shares key same exact P x px (g ∷ gs) h = by (same x g.0) (exact x g.0)
  where
    by : (b : Bool) → (b ≡ true → key x ≡ key g.0)
        → AllByRecursion (Shares key P) (cond b ((x, members g) ∷ gs) ((x, []) ∷ g ∷ gs))
    by true e = (
      (
        (px, refl),
        each_more (λ y. P y × (key y ≡ key g.0)) (λ y. P y × (key y ≡ key x))
            (λ y q. (q.0, q.1 ∙ sym (e refl))) (members g) h.0,
      ),
      h.1,
    )
    by false e = (((px, refl), tt), h)

pub groups_share : {X K : Type 0} (key : X → K) (same : X → X → Bool)
    → ((x y : X) → same x y ≡ true → key x ≡ key y) → (P : X → Type 0)
    → (xs : List X) → AllByRecursion P xs → AllByRecursion (Shares key P) (groups same xs)
unfolding groups
groups_share key same exact P [] h = tt
groups_share key same exact P (x ∷ xs) h =
    put_shares key same exact P x h.0 (groups same xs) (groups_share key same exact P xs h.1)

-- ---- reading

-- what is read adds these points in order and none foreign, with some count of metrics
abbrev pub Adds : List DataPoint → Tally → Result Tally Place → Type 0
Adds ps t r = (metrics : ℕ) × (r ≡ Ok
    (record { points = t.points ++ map point_read ps; foreign = t.foreign; metrics = metrics }))

more_added : (front ps qs : List DataPoint) (foreign metrics : ℕ)
    → Path Tally (record {
      points = (front ++ map point_read ps) ++ map point_read qs;
      foreign =
          foreign;
      metrics = metrics;
    }) (record {
      points =
          front ++ map point_read (ps ++ qs);
      foreign = foreign;
      metrics = metrics;
    })
more_added front ps qs foreign metrics =
    ap (λ all. record { points = all; foreign = foreign; metrics = metrics })
    (append_assoc front (map point_read ps) (map point_read qs)
    ∙ ap (λ rest. front ++ rest) (sym (map-append point_read ps qs)))

none_added : (t : Tally)
    → Path Tally t (record { points = t.points ++ []; foreign = t.foreign; metrics = t.metrics })
none_added t = ap (λ all. record { points = all; foreign = t.foreign; metrics = t.metrics })
    (sym (append-nil t.points))

-- the key: where each group's value adds the group's members, the values of all groups add all
-- members in order
pub each_group : (step : Data → Tally → Result Tally Place)
    (write : (DataPoint × List DataPoint) → Data) (Good : (DataPoint × List DataPoint) → Type 0)
    → ((g : DataPoint × List DataPoint) → Good g → (t : Tally)
    → Adds (members g) t (step (write g) t))
    → (gs : List (DataPoint × List DataPoint)) → AllByRecursion Good gs → (t : Tally)
    → Adds (flat_map members gs) t (each step (map write gs) t)
unfolding each
each_group step write Good one [] h t = (t.metrics, ap (λ (s : Tally). Ok s) (none_added t))
each_group step write Good one (g ∷ gs) h t =
    let first = one g h.0 t in
    let after : Tally = record {
      points = t.points ++ map point_read (members g);
      foreign =
          t.foreign;
      metrics = first.0;
    } in
    let rest = each_group step write Good one gs h.1 after in (
      rest.0,
      rw first.1 (rest.1 ∙ ap (λ (s : Tally). Ok s)
          (more_added t.points (members g) (flat_map members gs) t.foreign rest.0)),
    )

-- the same for the points, none of which is foreign
pub each_point_again : (reads : Data → Option DataPoint) (write : DataPoint → Data)
    (ps : List DataPoint) → AllByRecursion (λ p. reads (write p) ≡ Some (point_read p)) ps
    → (t : Tally)
    → each_point reads (map write ps) t
    ≡ record {
      points = t.points ++ map point_read ps;
      foreign = t.foreign;
      metrics =
          t.metrics;
    }
unfolding each_point
each_point_again reads write [] h t = none_added t
each_point_again reads write (p ∷ ps) h t =
    rw (h.0, each_point) (each_point_again reads write ps h.1
    (record {
      points = t.points ++ point_read p ∷ [];
      foreign = t.foreign;
      metrics =
          t.metrics;
    }) ∙ more_added t.points (p ∷ []) ps t.foreign t.metrics)

-- ---- arrays

pub elements_of_items : (ds : List Data) → elements (items_of ds) ≡ ds
elements_of_items [] = refl
elements_of_items (d ∷ ds) = ap (λ es. d ∷ es) (elements_of_items ds)

pub all_objects : {X : Type 0} (write : X → Data) → ((x : X) → is_object (write x) ≡ true)
    → (xs : List X) → list_all is_object (map write xs) ≡ true
all_objects write h [] = refl
all_objects write h (x ∷ xs) = rw (h x) (all_objects write h xs)

pub all_again : {X A : Type 0} (reads : Data → Option A) (write : X → Data) (see : X → A)
    (xs : List X) → AllByRecursion (λ x. reads (write x) ≡ Some (see x)) xs
    → all_of reads (map write xs) ≡ Some (map see xs)
unfolding all_of
all_again reads write see [] h = refl
all_again reads write see (x ∷ xs) h = rw (h.0, all_again reads write see xs h.1) refl
