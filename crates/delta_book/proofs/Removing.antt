-- A point is taken out of a table.
use Rattle.std.proofs.Common.{◌≡◌, ℕ, true, false, List, [], ◌∷◌, ◌++◌, map, take, set, get_or}
use Rattle.std.proofs.Common.{length, ◌+◌, ◌-◌, ◌<◌, refl, ap, sym, ◌∙◌, subst, inl, inr, ◌⊎◌}
use Rattle.std.specs.List.{list_all, list_any}
use Rattle.std.proofs.lemmas.Bool.{and_parts, or_cases}
use Rattle.std.proofs.lemmas.List.{append_assoc, map-append}
use Rattle.std.proofs.lemmas.List.Elements.{filter-append}
use Rattle.std.proofs.lemmas.List.Folds.{list_any-append}
use Rattle.series_id.specs.Identity.{Identity}
use Rattle.metric_events.specs.DataPoint.{DataPoint}
use Rattle.metric_events.specs.Points.{admitted, is_among}
use Rattle.metric_events.specs.Series.{is_of, of_series, is_ascending}
use Rattle.metric_events.specs.declared.accepted.Accepted.{Accepted}
use Rattle.metric_events.proofs.Identities.{same_of}
use Rattle.metric_events.proofs.InOrder.{ascending_distinct, series_ascend}
use Rattle.metric_events.proofs.SeriesOnce.{among_in_order}
use Rattle.metric_events.proofs.Lists.{all_append, all_first, all_last, any_append_left}
use Rattle.metric_events.proofs.Lists.{any_append_right}
use Rattle.series_cell.specs.Cells.{CellView, Stands, AllOwn, HasHome}
use Rattle.series_cell.proofs.Points.{all_own_last}
use Rattle.delta_book.specs.inner.Parts.{part_of, parts_of}
use Rattle.delta_book.specs.declared.cells.Fill.{Fill}
use Rattle.delta_book.specs.declared.cells.Fill.TheVariants.{Point}
use Rattle.delta_book.specs.Tables.{AreCells, id_of}
use Rattle.delta_book.specs.inner.Removals.{AreCellsFor, HasPart, IsListed}
use Rattle.delta_book.specs.inner.Tables.{HasPoint, HasPending, IsTable, IdAt, Removes}
use Rattle.delta_book.proofs.CellTotals.{has_points}
use Rattle.delta_book.proofs.CountedSeries.{listed-admitted}
use Rattle.delta_book.proofs.Counting.{each_in}
use Rattle.delta_book.proofs.Tables.{stands_at, at_id, set_ids, set_stand}
use Rattle.delta_book.proofs.Parts.{whole_parts, last_point, named-parts}

split_of : (x : Identity) (before after : List Accepted) (a : Accepted) → is_of x a ≡ true
    → of_series x (before ++ a ∷ after) ≡ of_series x before ++ a ∷ of_series x after
split_of x before after a e = filter-append (is_of x) before (a ∷ after) ∙ rw e refl

split_off : (y : Identity) (before after : List Accepted) (a : Accepted) → is_of y a ≡ false
    → of_series y (before ++ after) ≡ of_series y (before ++ a ∷ after)
split_off y before after a e = filter-append (is_of y) before after
    ∙ sym (filter-append (is_of y) before (a ∷ after) ∙ rw e refl)

own_of : (s : List ℕ) (x : Identity) (before after : List Accepted) (a : Accepted)
    → AllOwn s x (before ++ a ∷ after) → a.sender ≡ s
own_of s x before after a h = (all_own_last s x before (a ∷ after) h).0.sender

-- the cells of points are a table of them
pub table_of : (cs : List CellView) (qs : List Accepted) → AreCells cs qs → IsTable cs qs
table_of cs qs h = record {
  ascending = ap is_ascending h.ids ∙ series_ascend qs;
  stand = h.stand;
  covered = each_in (map id_of cs) qs (λ x m. ap (is_among x) h.ids ∙ (among_in_order x qs ∙ m));
}

-- the cell of the point's series has it at home
pub record Has (c : CellView) (b : ℕ) (s : List ℕ) (p : DataPoint) (before after : List Accepted)
    : Type 0 where
  pub owner : s ≡ c.owner
  pub stands : Stands c
      (of_series p.series before ++ admitted b c.owner p ∷ of_series p.series after)

pub has_at : (cs : List CellView) (i : ℕ) (c : CellView) (b : ℕ) (s : List ℕ) (p : DataPoint)
    (before after : List Accepted) → i < length cs → c ≡ get_or cs i c → IdAt cs i p.series
    → IsTable cs (before ++ admitted b s p ∷ after) → Has c b s p before after
has_at cs i c b s p before after l e a h =
    let st : Stands c (of_series p.series (before ++ admitted b s p ∷ after)) =
    subst (λ y. Stands c (of_series y (before ++ admitted b s p ∷ after)))
    (at_id cs i c p.series a e)
    (stands_at cs (before ++ admitted b s p ∷ after) i c l e h.stand) in
    let parts : Stands c (of_series p.series before ++ admitted b s p ∷ of_series p.series after) =
    subst (Stands c) (split_of p.series before after (admitted b s p)
    (same_of p.series p.series refl)) st in
    let own : s ≡ c.owner = own_of c.owner c.id (of_series p.series before)
    (of_series p.series after) (admitted b s p) parts.own in
    record {
      owner = own;
      stands = subst
          (λ t. Stands c (of_series p.series before ++ admitted b t p ∷ of_series p.series after))
          own
          parts;
    }

pub has_home : (cs : List CellView) (i : ℕ) (c : CellView) (b : ℕ) (p : DataPoint) → i < length cs
    → c ≡ get_or cs i c → IdAt cs i p.series → HasPart cs b (p ∷ []) → HasHome c b p
has_home cs i c b p l e a r = (
  of_series p.series r.1.0,
  (of_series p.series r.1.1.0, (has_at cs i c b r.0 p r.1.0 r.1.1.0 l e a r.1.1.1).stands),
)

pub removed : (cs : List CellView) (i : ℕ) (c d : CellView) (b : ℕ) (s : List ℕ) (p : DataPoint)
    (before after : List Accepted) → i < length cs → c ≡ get_or cs i c → IdAt cs i p.series
    → d.id ≡ c.id → ((xs ys : List Accepted) → Stands c (xs ++ admitted b c.owner p ∷ ys)
    → Stands d (xs ++ ys)) → IsTable cs (before ++ admitted b s p ∷ after)
    → IsTable (set cs i d) (before ++ after)
removed cs i c d b s p before after l e a same k h =
    let x = p.series in
    let ed : d.id ≡ x = same ∙ at_id cs i c x a e in
    let ids : map id_of (set cs i d) ≡ map id_of cs = set_ids cs i d x a ed in
    let q : Accepted = admitted b s p in
    record {
      ascending = ap is_ascending ids ∙ h.ascending;
      stand = set_stand cs (before ++ q ∷ after) (before ++ after) i d x
          (ascending_distinct (map id_of cs) h.ascending) a ed
          (subst (Stands d) (sym (filter-append (is_of x) before after))
          (k (of_series x before) (of_series x after)
          (has_at cs i c b s p before after l e a h).stands))
          (λ y n. split_off y before after q n)
          h.stand;
      covered = subst (λ xs. list_all (λ a. is_among a.point.series xs) (before ++ after) ≡ true)
          (sym ids)
          (all_append (λ a. is_among a.point.series (map id_of cs)) before after
          (all_first (λ a. is_among a.point.series (map id_of cs)) before (q ∷ after) h.covered)
          (and_parts (is_among x (map id_of cs))
          (list_all (λ a. is_among a.point.series (map id_of cs)) after)
          (all_last (λ a. is_among a.point.series (map id_of cs)) before (q ∷ after)
          h.covered)).1);
    }

pub not_absent : (cs : List CellView) (b : ℕ) (s : List ℕ) (p : DataPoint)
    (before after : List Accepted) → is_among p.series (map id_of cs) ≡ false
    → IsTable cs (before ++ admitted b s p ∷ after) → ⊥
not_absent cs b s p before after n h =
    let m = (and_parts (is_among p.series (map id_of cs))
    (list_all (λ a. is_among a.point.series (map id_of cs)) after)
    (all_last (λ a. is_among a.point.series (map id_of cs)) before (admitted b s p ∷ after)
    h.covered)).0 in
    let q : true ≡ false = sym m ∙ n in cc

-- the last point that is left of a batch
pub last_out : (fill : Fill) (b : ℕ) (s : List ℕ) (before after : List Accepted)
    (ps : List DataPoint) (k : ℕ) (p : DataPoint) → k < length ps
    → p ≡ get_or ps (length ps - 1 - k) p
    → before ++ (map (admitted b s) (parts_of fill (take (length ps - k) ps)) ++ after)
    ≡ (before ++ map (admitted b s) (parts_of fill (take (length ps - (k + 1)) ps)))
    ++ admitted b s (part_of fill p) ∷ after
last_out fill b s before after ps k p l e =
    let f = admitted b s in
    let left = take (length ps - (k + 1)) ps in
    let q = part_of fill p in
    ap (λ (ys : List DataPoint). before ++ (map f (parts_of fill ys) ++ after))
    (last_point ps k p l e)
    ∙ (ap (λ ys. before ++ (map f ys ++ after)) (map-append (part_of fill) left (p ∷ []))
    ∙ (ap (λ ys. before ++ (ys ++ after)) (map-append f (parts_of fill left) (q ∷ []))
    ∙ (ap (λ ys. before ++ ys) (append_assoc (map f (parts_of fill left)) (f q ∷ []) after)
    ∙ sym (append_assoc before (map f (parts_of fill left)) (f q ∷ after)))))

-- with all of a batch the cells may be left without a point of one of its series
pub left_for : (cs ds : List CellView) (b : ℕ) (s : List ℕ) (fill : Fill)
    (before after : List Accepted) (ps : List DataPoint) → map id_of ds ≡ map id_of cs
    → IsTable ds (before ++ after) → AreCells cs
    (before ++ (map (admitted b s) (parts_of fill ps) ++ after))
    → AreCellsFor ds (before ++ after) ps
left_for cs ds b s fill before after ps ids t h =
    record { table = t; some = λ x m. part x (has_points cs _ h x (ap (is_among x) (sym ids) ∙ m)) }
  where
    put : List Accepted
    put = map (admitted b s) (parts_of fill ps)

    part : (x : Identity) → HasPoint x (before ++ (put ++ after))
        → HasPoint x (before ++ after) ⊎ IsListed x ps
    part x m = elim (or_cases (list_any (is_of x) before) (list_any (is_of x) (put ++ after))
        (sym (list_any-append (is_of x) before (put ++ after)) ∙ m)) [
          | inl e ↦ inl (any_append_left (is_of x) before after e)
          | inr e ↦ elim (or_cases (list_any (is_of x) put) (list_any (is_of x) after)
              (sym (list_any-append (is_of x) put after) ∙ e)) [
                | inl f ↦ inr
                    (sym (listed-admitted x b s (parts_of fill ps) ∙ named-parts x fill ps) ∙ f)
                | inr f ↦ inl (any_append_right (is_of x) before after f)
              ]
        ]

-- all of each point is the point
pub pending_whole : (cs : List CellView) (b : ℕ) (ps : List DataPoint) → HasPending cs b ps
    → HasPending cs b (parts_of Point ps)
pending_whole cs b ps h = subst (HasPending cs b) (sym (whole_parts ps)) h

pub removes_whole : (cs ds : List CellView) (b : ℕ) (ps : List DataPoint)
    → Removes cs ds b (parts_of Point ps) → Removes cs ds b ps
removes_whole cs ds b ps h = subst (λ (xs : List DataPoint). Removes cs ds b xs) (whole_parts ps) h
