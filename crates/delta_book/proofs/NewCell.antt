-- A cell goes in where a series has none.
use Rattle.std.proofs.Common.{◌≡◌, ℕ, Bool, true, false, ◌||◌, List, [], ◌∷◌, map, refl, ap, sym}
use Rattle.std.proofs.Common.{◌∙◌, subst, zero, suc}
use Rattle.std.specs.List.{list_all, insert}
use Rattle.std.proofs.lemmas.Bool.{and_parts, and_from, or_from}
use Rattle.std.proofs.Math.Bool.{or-false, or_assoc, or_comm}
use Rattle.series_id.specs.Identity.{Identity}
use Rattle.series_id.specs.Order.{same_series, series_before}
use Rattle.series_id.proofs.Order.{before-apart, before-transitive}
use Rattle.metric_events.specs.Points.{is_among}
use Rattle.metric_events.specs.Series.{of_series, is_ascending}
use Rattle.metric_events.specs.declared.accepted.Accepted.{Accepted}
use Rattle.metric_events.proofs.Identities.{same_series-turned}
use Rattle.metric_events.proofs.Lists.{all_weaker}
use Rattle.series_cell.specs.Cells.{CellView, Stands}
use Rattle.delta_book.specs.inner.Puts.{IsGap}
use Rattle.delta_book.specs.Tables.{AllStand, id_of}

-- a series that goes there is not among them

all_before : (x : Identity) (cs : List CellView) → list_all (series_before x) (map id_of cs) ≡ true
    → is_among x (map id_of cs) ≡ false
all_before x [] h = refl
all_before x (c ∷ cs) h =
    let p = and_parts (series_before x c.id) (list_all (series_before x) (map id_of cs)) h in
    or_from (same_series x c.id) (is_among x (map id_of cs)) (before-apart x c.id p.0)
    (all_before x cs p.1)

all_from : (x : Identity) (c : CellView) (cs : List CellView) → series_before x c.id ≡ true
    → list_all (series_before c.id) (map id_of cs) ≡ true
    → list_all (series_before x) (map id_of (c ∷ cs)) ≡ true
all_from x c cs b h = and_from (series_before x c.id) (list_all (series_before x) (map id_of cs)) b
    (all_weaker (series_before c.id) (series_before x) (λ z k. before-transitive x c.id z b k)
    (map id_of cs) h)

pub gap_absent : (cs : List CellView) (i : ℕ) (x : Identity) → is_ascending (map id_of cs) ≡ true
    → IsGap cs i x → is_among x (map id_of cs) ≡ false
gap_absent [] i x u h = refl
gap_absent (c ∷ cs) zero x u h = all_before x (c ∷ cs)
    (all_from x c cs h (and_parts (list_all (series_before c.id) (map id_of cs))
    (is_ascending (map id_of cs)) u).0)
gap_absent (c ∷ cs) (suc i) x u h =
    or_from (same_series x c.id) (is_among x (map id_of cs))
    (same_series-turned x c.id ∙ before-apart c.id x h.0)
    (gap_absent cs i x (and_parts (list_all (series_before c.id) (map id_of cs))
    (is_ascending (map id_of cs)) u).1 h.1)

-- a cell more

all_inserted : (t : Identity → Bool) (cs : List CellView) (i : ℕ) (d : CellView) → t d.id ≡ true
    → list_all t (map id_of cs) ≡ true → list_all t (map id_of (insert cs i d)) ≡ true
all_inserted t [] zero d e h = and_from (t d.id) true e refl
all_inserted t [] (suc i) d e h = and_from (t d.id) true e refl
all_inserted t (c ∷ cs) zero d e h = and_from (t d.id) (list_all t (map id_of (c ∷ cs))) e h
all_inserted t (c ∷ cs) (suc i) d e h =
    let p = and_parts (t c.id) (list_all t (map id_of cs)) h in
    and_from (t c.id) (list_all t (map id_of (insert cs i d))) p.0 (all_inserted t cs i d e p.1)

pub ascends_inserted : (cs : List CellView) (i : ℕ) (d : CellView) (x : Identity)
    → is_ascending (map id_of cs) ≡ true → IsGap cs i x → d.id ≡ x
    → is_ascending (map id_of (insert cs i d)) ≡ true
ascends_inserted [] zero d x u h e = refl
ascends_inserted [] (suc i) d x u h e = refl
ascends_inserted (c ∷ cs) zero d x u h e =
    and_from (list_all (series_before d.id) (map id_of (c ∷ cs)))
    (is_ascending (map id_of (c ∷ cs)))
    (subst (λ y. list_all (series_before y) (map id_of (c ∷ cs)) ≡ true) (sym e)
    (all_from x c cs h (and_parts (list_all (series_before c.id) (map id_of cs))
    (is_ascending (map id_of cs)) u).0)) u
ascends_inserted (c ∷ cs) (suc i) d x u h e =
    let p =
    and_parts (list_all (series_before c.id) (map id_of cs)) (is_ascending (map id_of cs)) u in
    and_from (list_all (series_before c.id) (map id_of (insert cs i d)))
    (is_ascending (map id_of (insert cs i d)))
    (all_inserted (series_before c.id) cs i d (subst (λ y. series_before c.id y ≡ true) (sym e) h.0)
    p.0)
    (ascends_inserted cs i d x p.1 h.1 e)

pub stand_inserted : (cs : List CellView) (i : ℕ) (d : CellView) (qs : List Accepted)
    → Stands d (of_series d.id qs) → AllStand cs qs → AllStand (insert cs i d) qs
stand_inserted [] zero d qs g h = (g, tt)
stand_inserted [] (suc i) d qs g h = (g, tt)
stand_inserted (c ∷ cs) zero d qs g h = (g, h)
stand_inserted (c ∷ cs) (suc i) d qs g h = (h.0, stand_inserted cs i d qs g h.1)

pub among_inserted : (y : Identity) (cs : List CellView) (i : ℕ) (d : CellView)
    → is_among y (map id_of (insert cs i d)) ≡ (is_among y (map id_of cs) || same_series y d.id)
among_inserted y [] zero d = or-false (same_series y d.id)
among_inserted y [] (suc i) d = or-false (same_series y d.id)
among_inserted y (c ∷ cs) zero d =
    or_comm (same_series y d.id) (same_series y c.id || is_among y (map id_of cs))
among_inserted y (c ∷ cs) (suc i) d =
    ap (λ v. same_series y c.id || v) (among_inserted y cs i d)
    ∙ sym (or_assoc (same_series y c.id) (is_among y (map id_of cs)) (same_series y d.id))
