-- What the cells of a book say of what it holds pending of a series.
use Rattle.std.proofs.Common.{◌≡◌, ℕ, ◌<◌, Bool, true, false, List, [], ◌∷◌, None, map, filter}
use Rattle.std.proofs.Common.{length, get_or, refl, sym, subst, ap, ◌∙◌, ◌||◌, arith, zero, suc}
use Rattle.std.specs.List.{list_any}
use Rattle.series_id.specs.Identity.{Identity}
use Rattle.metric_events.specs.Points.{points, is_home, is_among}
use Rattle.metric_events.specs.Running.{held_senders}
use Rattle.metric_events.specs.Series.{is_of, of_series, series_in_order, is_ascending, hull}
use Rattle.metric_events.specs.Standing.{stands, series_standing, standing}
use Rattle.metric_events.specs.declared.accepted.Accepted.{Accepted}
use Rattle.metric_events.proofs.InOrder.{series_ascend}
use Rattle.metric_events.proofs.SeriesOnce.{among_in_order}
use Rattle.series_cell.specs.Cells.{CellView, home_hull}
use Rattle.delta_book.specs.CellTotals.{cell_totals, standing_totals, CellTotals}
use Rattle.delta_book.specs.Journal.{Journal, history}
use Rattle.delta_book.specs.Tables.{id_of}
use Rattle.delta_book.specs.inner.Tables.{IdAt}
use Rattle.book_desk.specs.Crossings.{pending_span}

-- the cells are those of the series, in order
abbrev AreOf : List CellView → List Accepted → List (List ℕ) → List Identity → Type 0
AreOf cs qs held xs = map cell_totals cs ≡ map standing_totals (map (series_standing qs held) xs)

ids_are : (cs : List CellView) (qs : List Accepted) (held : List (List ℕ)) (xs : List Identity)
    → AreOf cs qs held xs → map id_of cs ≡ xs
ids_are [] qs held [] h = refl
ids_are [] qs held (x ∷ xs) h = absurd (cc)
ids_are (c ∷ cs) qs held [] h = absurd (cc)
ids_are (c ∷ cs) qs held (x ∷ xs) h =
    let e : cell_totals c ≡ standing_totals (series_standing qs held x) = cc in
    let r : AreOf cs qs held xs = cc in
    let i : c.id ≡ x = ap (λ (t : CellTotals). t.id) e in
    let s : map id_of cs ≡ xs = ids_are cs qs held xs r in
    cc

-- the span of a cell is that of what is pending of its series
span_at : (cs : List CellView) (qs : List Accepted) (held : List (List ℕ)) (xs : List Identity)
    (i : ℕ) (c : CellView) (x : Identity) → AreOf cs qs held xs → i < length cs → c ≡ get_or cs i c
    → IdAt cs i x → home_hull c ≡ hull (filter (stands is_home) (of_series x qs))
span_at [] qs held xs i c x h l e a = absurd (omega (arith, l))
span_at (d ∷ cs) qs held [] i c x h l e a = absurd (cc)
span_at (d ∷ cs) qs held (y ∷ ys) zero c x h l e a =
    let f : cell_totals d ≡ standing_totals (series_standing qs held y) = cc in
    let s : home_hull d ≡ hull (filter (stands is_home) (of_series y qs)) =
    ap (λ (t : CellTotals). t.stored_span) f in
    let i : d.id ≡ y = ap (λ (t : CellTotals). t.id) f in
    ap home_hull e
    ∙ (s ∙ ap (λ (z : Identity). hull (filter (stands is_home) (of_series z qs))) (sym i ∙ a))
span_at (d ∷ cs) qs held (y ∷ ys) (suc i) c x h l e a =
    let r : AreOf cs qs held ys = cc in
    span_at cs qs held ys i c x r (omega arith) e a

none_of_series : (x : Identity) (qs : List Accepted) → list_any (is_of x) qs ≡ false
    → of_series x qs ≡ []
none_of_series x [] h = refl
none_of_series x (a ∷ qs) h = at (is_of x a) refl (none_of_series x qs)
  where
    at : (b : Bool) → is_of x a ≡ b → (list_any (is_of x) qs ≡ false → of_series x qs ≡ [])
        → of_series x (a ∷ qs) ≡ []
    at true e r = absurd (let f : (true || list_any (is_of x) qs) ≡ false =
        subst (λ (v : Bool). (v || list_any (is_of x) qs) ≡ false) e h in cc)
    at false e r = rw e (r (subst (λ (v : Bool). (v || list_any (is_of x) qs) ≡ false) e h))

pub ascends : (cs : List CellView) (book : Journal)
    → map cell_totals cs ≡ map standing_totals (standing (history book)).series
    → is_ascending (map id_of cs) ≡ true
ascends cs book h = subst (λ (xs : List Identity). is_ascending xs ≡ true)
    (sym (ids_are cs (points (history book)) (held_senders (history book))
    (series_in_order (points (history book))) h)) (series_ascend (points (history book)))

-- a series with no cell has nothing pending
pub nothing_pending : (cs : List CellView) (book : Journal) (x : Identity)
    → map cell_totals cs ≡ map standing_totals (standing (history book)).series
    → (is_ascending (map id_of cs) ≡ true → is_among x (map id_of cs) ≡ false)
    → pending_span book x ≡ None
nothing_pending cs book x h f =
    let qs = points (history book) in
    let a : is_among x (series_in_order qs) ≡ false =
    subst (λ (xs : List Identity). is_among x xs ≡ false)
    (ids_are cs qs (held_senders (history book)) (series_in_order qs) h)
    (f (ascends cs book h)) in
    ap (λ (rs : List Accepted). hull (filter (stands is_home) rs))
    (none_of_series x qs (sym (among_in_order x qs) ∙ a))

-- a cell has the span of its series
pub pending_at : (cs : List CellView) (book : Journal) (i : ℕ) (c : CellView) (x : Identity)
    → map cell_totals cs ≡ map standing_totals (standing (history book)).series → i < length cs
    → c ≡ get_or cs i c → IdAt cs i x → home_hull c ≡ pending_span book x
pending_at cs book i c x h l e a =
    span_at cs (points (history book)) (held_senders (history book))
    (series_in_order (points (history book))) i c x h l e a
