-- Cells that represent no point are removed.
use Rattle.std.proofs.Common.{◌≡◌, ◌==◌, ℕ, ◌<◌, Bool, true, false, not, ◌||◌, List, []}
use Rattle.std.proofs.Common.{◌∷◌, ◌++◌, map, get_or, length, refl, ap, sym, ◌∙◌, subst}
use Rattle.std.proofs.Common.{arith, inl, inr, ◌⊎◌}
use Rattle.std.specs.List.{filter, list_all, list_any}
use Rattle.std.proofs.lemmas.Bool.{and_parts, and_from, or_cases, or_left, or_right}
use Rattle.std.proofs.lemmas.Bool.{not-false, eqb-true, ne_eqb}
use Rattle.series_id.specs.Identity.{Identity}
use Rattle.series_id.specs.Order.{same_series, series_before}
use Rattle.series_id.proofs.Order.{same_series-refl, same_series-exact}
use Rattle.metric_events.specs.DataPoint.{DataPoint}
use Rattle.metric_events.specs.Points.{is_among}
use Rattle.metric_events.specs.Series.{is_of, of_series, series_in_order, is_ascending}
use Rattle.metric_events.specs.declared.accepted.Accepted.{Accepted}
use Rattle.metric_events.proofs.InOrder.{series_ascend}
use Rattle.metric_events.proofs.Lists.{all_both, any_split, both_at}
use Rattle.metric_events.proofs.SeriesOnce.{among_in_order}
use Rattle.series_cell.specs.Cells.{CellView, Stands, IsOwn, greatest_end, end_of}
use Rattle.metric_events.proofs.Intervals.{ends_after}
use Rattle.series_cell.proofs.Standing.{end_is}
use Rattle.delta_book.specs.Tables.{AreCells, AllStand, id_of}
use Rattle.delta_book.specs.inner.Batches.{is_point_of}
use Rattle.delta_book.specs.inner.Removals.{AreCellsFor, IsListed}
use Rattle.delta_book.specs.inner.Tables.{HasPoint, IsTable, IdAt}
use Rattle.delta_book.proofs.Choosing.{same_ascending}
use Rattle.delta_book.proofs.Tables.{agree, stands_at, at_id}

-- the cell has a frontier
abbrev pub is_some_cell : CellView → Bool
is_some_cell c = not (end_of c == 0)

-- a cell of no frontier stands for no point
pub empty_cell : (c : CellView) (qs : List Accepted) → Stands c qs → is_some_cell c ≡ false
    → qs ≡ []
empty_cell c [] h e = refl
empty_cell c (a ∷ qs) h e =
    let z : end_of c ≡ 0 = eqb-true (end_of c) 0 (not-false (end_of c == 0) e) in
    let own : IsOwn c.owner c.id a = h.own.0 in
    absurd (omega (arith, z, end_is c (a ∷ qs) h, ends_after a.point.span own.span))

full_cell : (c : CellView) (qs : List Accepted) → Stands c qs → is_some_cell c ≡ true → qs ≡ [] → ⊥
full_cell c qs h e n =
    let z : end_of c ≡ 0 = end_is c qs h ∙ ap greatest_end n in
    let t : not (0 == 0) ≡ true = subst (λ k. not (k == 0) ≡ true) z e in
    let q : false ≡ true = t in cc

pub none_of_empty : (x : Identity) (qs : List Accepted) → of_series x qs ≡ []
    → list_any (is_of x) qs ≡ false
none_of_empty x [] e = refl
none_of_empty x (a ∷ qs) e = both (is_of x a) refl (none_of_empty x qs)
  where
    both : (v : Bool) → is_of x a ≡ v → (of_series x qs ≡ [] → list_any (is_of x) qs ≡ false)
        → (is_of x a || list_any (is_of x) qs) ≡ false
    both true k r = absurd (let q : a ∷ of_series x qs ≡ [] = rw k at e in cc)
    both false k r = let q : of_series x qs ≡ [] = rw k at e in rw k (r q)

some_of : (x : Identity) (qs : List Accepted) → (of_series x qs ≡ [] → ⊥)
    → list_any (is_of x) qs ≡ true
some_of x [] k = absurd (k refl)
some_of x (a ∷ qs) k = both (is_of x a) refl (some_of x qs)
  where
    both : (v : Bool) → is_of x a ≡ v → ((of_series x qs ≡ [] → ⊥) → list_any (is_of x) qs ≡ true)
        → (is_of x a || list_any (is_of x) qs) ≡ true
    both true e r = rw e refl
    both false e r = rw e (r (λ m. k (rw e m)))

pub covered_by : (z : Identity) (xs : List Identity) (qs : List Accepted)
    → list_all (λ a. is_among a.point.series xs) qs ≡ true → list_any (is_of z) qs ≡ true
    → is_among z xs ≡ true
covered_by z xs qs h m = both_at (is_of z) (λ a. is_among a.point.series xs) (is_among z xs ≡ true)
    (λ a e k. subst (λ y. is_among y xs ≡ true) (same_series-exact a.point.series z e) k) qs m h

-- the cells without a frontier are left out

kept_all : (t : Identity → Bool) (cs : List CellView) → list_all t (map id_of cs) ≡ true
    → list_all t (map id_of (filter is_some_cell cs)) ≡ true
kept_all t [] h = refl
kept_all t (c ∷ cs) h =
    let p = and_parts (t c.id) (list_all t (map id_of cs)) h in
    both (is_some_cell c) refl p.0 (kept_all t cs p.1)
  where
    both : (v : Bool) → is_some_cell c ≡ v → t c.id ≡ true
        → list_all t (map id_of (filter is_some_cell cs)) ≡ true
        → list_all t (map id_of (filter is_some_cell (c ∷ cs))) ≡ true
    both true e f r =
        rw e (and_from (t c.id) (list_all t (map id_of (filter is_some_cell cs))) f r)
    both false e f r = rw e r

kept_ascends : (cs : List CellView) → is_ascending (map id_of cs) ≡ true
    → is_ascending (map id_of (filter is_some_cell cs)) ≡ true
kept_ascends [] h = refl
kept_ascends (c ∷ cs) h =
    let p =
    and_parts (list_all (series_before c.id) (map id_of cs)) (is_ascending (map id_of cs)) h in
    both (is_some_cell c) refl (kept_all (series_before c.id) cs p.0) (kept_ascends cs p.1)
  where
    both : (v : Bool) → is_some_cell c ≡ v
        → list_all (series_before c.id) (map id_of (filter is_some_cell cs)) ≡ true
        → is_ascending (map id_of (filter is_some_cell cs)) ≡ true
        → is_ascending (map id_of (filter is_some_cell (c ∷ cs))) ≡ true
    both true e f r =
        rw e (and_from (list_all (series_before c.id) (map id_of (filter is_some_cell cs)))
        (is_ascending (map id_of (filter is_some_cell cs))) f r)
    both false e f r = rw e r

kept_stand : (cs : List CellView) (qs : List Accepted) → AllStand cs qs
    → AllStand (filter is_some_cell cs) qs
kept_stand [] qs h = tt
kept_stand (c ∷ cs) qs h = both (is_some_cell c) refl h.0 (kept_stand cs qs h.1)
  where
    both : (v : Bool) → is_some_cell c ≡ v → Stands c (of_series c.id qs)
        → AllStand (filter is_some_cell cs) qs → AllStand (filter is_some_cell (c ∷ cs)) qs
    both true e f r = rw e (f, r)
    both false e f r = rw e r

-- what has a point stays
kept_among : (x : Identity) (cs : List CellView) (qs : List Accepted) → AllStand cs qs
    → list_any (is_of x) qs ≡ true → is_among x (map id_of cs) ≡ true
    → is_among x (map id_of (filter is_some_cell cs)) ≡ true
kept_among x [] qs h k m = m
kept_among x (c ∷ cs) qs h k m = both (is_some_cell c) refl h.0 k
    (or_cases (same_series x c.id) (is_among x (map id_of cs)) m) (kept_among x cs qs h.1 k)
  where
    both : (v : Bool) → is_some_cell c ≡ v → Stands c (of_series c.id qs)
        → list_any (is_of x) qs ≡ true
        → (same_series x c.id ≡ true) ⊎ (is_among x (map id_of cs) ≡ true)
        → (is_among x (map id_of cs) ≡ true
        → is_among x (map id_of (filter is_some_cell cs)) ≡ true)
        → is_among x (map id_of (filter is_some_cell (c ∷ cs))) ≡ true
    both true e s k (inl f) r =
        rw e (or_left (same_series x c.id) (is_among x (map id_of (filter is_some_cell cs))) f)
    both true e s k (inr f) r =
        rw e (or_right (same_series x c.id) (is_among x (map id_of (filter is_some_cell cs))) (r f))
    both false e s k (inl f) r = absurd (let q : true ≡ false =
        sym k ∙ none_of_empty x qs (ap (λ y. of_series y qs) (same_series-exact x c.id f)
        ∙ empty_cell c (of_series c.id qs) s e) in cc)
    both false e s k (inr f) r = rw e (r f)

-- what stays has a point
kept_some : (x : Identity) (cs : List CellView) (qs : List Accepted) → AllStand cs qs
    → is_among x (map id_of (filter is_some_cell cs)) ≡ true → list_any (is_of x) qs ≡ true
kept_some x [] qs h m = absurd (let q : false ≡ true = m in cc)
kept_some x (c ∷ cs) qs h m = both (is_some_cell c) refl h.0 m (kept_some x cs qs h.1)
  where
    first : is_some_cell c ≡ true → Stands c (of_series c.id qs)
        → (same_series x c.id ≡ true) ⊎ (is_among x (map id_of (filter is_some_cell cs)) ≡ true)
        → (is_among x (map id_of (filter is_some_cell cs)) ≡ true → list_any (is_of x) qs ≡ true)
        → list_any (is_of x) qs ≡ true
    first e s (inl f) r = some_of x qs (λ n. full_cell c (of_series c.id qs) s e
        (ap (λ y. of_series y qs) (sym (same_series-exact x c.id f)) ∙ n))
    first e s (inr f) r = r f

    both : (v : Bool) → is_some_cell c ≡ v → Stands c (of_series c.id qs)
        → is_among x (map id_of (filter is_some_cell (c ∷ cs))) ≡ true
        → (is_among x (map id_of (filter is_some_cell cs)) ≡ true → list_any (is_of x) qs ≡ true)
        → list_any (is_of x) qs ≡ true
    both true e s n r =
        let p : (same_series x c.id || is_among x (map id_of (filter is_some_cell cs))) ≡ true =
        rw e at n in
        first e s
        (or_cases (same_series x c.id) (is_among x (map id_of (filter is_some_cell cs))) p) r
    both false e s n r =
        let p : is_among x (map id_of (filter is_some_cell cs)) ≡ true = rw e at n in r p

all_there : (us qs : List Accepted)
    → ((x : Identity) → list_any (is_of x) qs ≡ true → list_any (is_of x) us ≡ true)
    → list_all (λ a. list_any (is_of a.point.series) us) qs ≡ true
all_there us [] k = refl
all_there us (a ∷ qs) k =
    and_from (list_any (is_of a.point.series) us)
    (list_all (λ b. list_any (is_of b.point.series) us) qs)
    (k a.point.series (or_left (is_of a.point.series a) (list_any (is_of a.point.series) qs)
    (same_series-refl a.point.series)))
    (all_there us qs (λ x m. k x (or_right (is_of x a) (list_any (is_of x) qs) m)))

-- the last point of a batch has no cell, or its series has a point
pub still_for : (cs : List CellView) (qs : List Accepted) (ps : List DataPoint) (p : DataPoint)
    → (is_among p.series (map id_of cs) ≡ true → HasPoint p.series qs)
    → AreCellsFor cs qs (ps ++ p ∷ []) → AreCellsFor cs qs ps
still_for cs qs ps p k h = record { table = h.table; some = λ x m. one x m (h.some x m) }
  where
    one : (x : Identity) → is_among x (map id_of cs) ≡ true
        → HasPoint x qs ⊎ IsListed x (ps ++ p ∷ []) → HasPoint x qs ⊎ IsListed x ps
    one x m (inl e) = inl e
    one x m (inr e) =
        elim (any_split (is_point_of x) ps p e) [
          | inl f ↦ inr f
          | inr f ↦ inl (subst (λ y. HasPoint y qs) (same_series-exact p.series x f)
              (k (subst (λ y. is_among y (map id_of cs) ≡ true)
              (sym (same_series-exact p.series x f)) m)))
        ]

-- its cell has a frontier, and stays
pub stays_for : (cs : List CellView) (i : ℕ) (c : CellView) (qs : List Accepted)
    (ps : List DataPoint) (p : DataPoint) → i < length cs → c ≡ get_or cs i c → IdAt cs i p.series
    → is_some_cell c ≡ true → AreCellsFor cs qs (ps ++ p ∷ []) → AreCellsFor cs qs ps
stays_for cs i c qs ps p l e a m h =
    still_for cs qs ps p (λ _. some_of p.series qs
    (λ n. full_cell c (of_series c.id qs) (stands_at cs qs i c l e h.table.stand) m
    (ap (λ y. of_series y qs) (at_id cs i c p.series a e) ∙ n))) h

-- a table whose series all have a point
pub cells_of_table : (cs : List CellView) (qs : List Accepted) → IsTable cs qs
    → ((x : Identity) → is_among x (map id_of cs) ≡ true → list_any (is_of x) qs ≡ true)
    → AreCells cs qs
cells_of_table cs qs h k = record {
  ids = same_ascending (map id_of cs) (series_in_order qs) h.ascending (series_ascend qs)
      (record {
        same = λ z. agree (k z) (covered_by z (map id_of cs) qs h.covered)
            ∙ sym (among_in_order z qs);
      });
  stand = h.stand;
}

-- cells for no other point
pub swept : (cs : List CellView) (qs : List Accepted) → AreCellsFor cs qs [] → AreCells cs qs
swept cs qs h = cells_of_table cs qs h.table (λ x m. some x (h.some x m))
  where
    some : (x : Identity) → HasPoint x qs ⊎ IsListed x [] → HasPoint x qs
    some x (inl k) = k
    some x (inr k) = absurd (let q : false ≡ true = k in cc)

-- the cells that have a frontier are those of the points
pub kept_full : (cs : List CellView) (qs : List Accepted) (ps : List DataPoint)
    → AreCellsFor cs qs ps → AreCells (filter is_some_cell cs) qs
kept_full cs qs ps h = cells_of_table (filter is_some_cell cs) qs
    (record {
      ascending = kept_ascends cs h.table.ascending;
      stand = kept_stand cs qs h.table.stand;
      covered = all_both (λ a. list_any (is_of a.point.series) qs)
          (λ a. is_among a.point.series (map id_of cs))
          (λ a. is_among a.point.series (map id_of (filter is_some_cell cs)))
          (λ a k m. kept_among a.point.series cs qs h.table.stand k m) qs
          (all_there qs qs (λ x m. m)) h.table.covered;
    }) (λ x m. kept_some x cs qs h.table.stand m)

-- what was found in the cells' slice
pub found : (ds cs : List CellView) (i : ℕ) (x y : Identity) → ds ≡ cs → x ≡ y
    → (i < length ds) × IdAt ds i x → (i < length cs) × IdAt cs i y
found ds cs i x y e f h = (
  subst (λ ks. i < length ks) e h.0,
  subst (λ ks. IdAt ks i y) e
      (subst (λ (z : Identity). IdAt ds i z) f h.1),
)

pub missed : (ds cs : List CellView) (x y : Identity) → ds ≡ cs → x ≡ y
    → (is_ascending (map id_of ds) ≡ true → is_among x (map id_of ds) ≡ false)
    → is_ascending (map id_of cs) ≡ true → is_among y (map id_of cs) ≡ false
missed ds cs x y e f h u = subst (λ ks. is_among y (map id_of ks) ≡ false) e
    (subst (λ (z : Identity). is_among z (map id_of ds) ≡ false) f
    (h (ap (λ ks. is_ascending (map id_of ks)) e ∙ u)))

-- what the frontier of a cell says

pub has_end : (c : CellView) (n : ℕ) → n ≡ end_of c → (n ≡ 0 → ⊥) → is_some_cell c ≡ true
has_end c n e k = ap not (ne_eqb (end_of c) 0 (λ m. k (e ∙ m)))
