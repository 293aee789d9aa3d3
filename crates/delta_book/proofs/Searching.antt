-- A series is looked for in the middle of ascending cells.
use Rattle.std.proofs.Common.{◌≡◌, ℕ, ◌+◌, ◌-◌, ◌/◌, ◌<◌, ◌≤◌, Bool, true, false, List, [], ◌∷◌}
use Rattle.std.proofs.Common.{map, take, drop, get_or, length, refl, ap, sym, ◌∙◌, arith, zero, suc}
use Rattle.std.proofs.Common.{add-one}
use Rattle.std.specs.List.{list_all}
use Rattle.std.proofs.lemmas.Bool.{and_parts, and_from}
use Rattle.series_id.specs.Identity.{Identity, row_length}
use Rattle.std.specs.Ordering.{is_eq, is_lt}
use Rattle.std.specs.declared.cmp.Ordering.TheVariants.{Less, Equal, Greater}
use Rattle.series_id.specs.Order.{series_before, series_cmp, same_series}
use Rattle.series_id.proofs.Order.{before-transitive, before-apart, before-or-after}
use Rattle.series_id.proofs.Order.{same_series-refl, same_series-exact}
use Rattle.metric_events.proofs.Identities.{same_series-turned}
use Rattle.metric_events.specs.declared.accepted.Accepted.{Accepted}
use Rattle.series_cell.specs.Cells.{CellView}
use Rattle.metric_events.specs.Rows.{zeros}
use Rattle.metric_events.specs.Opening.{series_of}
use Rattle.metric_events.specs.Close.{past}
use Rattle.metric_events.specs.declared.opened_series.OpenedSeries.{OpenedSeries}
use Rattle.metric_events.specs.Series.{is_ascending}
use Rattle.delta_book.specs.Tables.{AreCells, id_of}
use Rattle.delta_book.specs.inner.Puts.{IsGap}
use Rattle.delta_book.proofs.Removing.{table_of}

pub cells_ascend : (cs : List CellView) (qs : List Accepted) → AreCells cs qs
    → is_ascending (map id_of cs) ≡ true
cells_ascend cs qs h = (table_of cs qs h).ascending

key_holds : {X : Type 0} (key : X → Identity) (t : Identity → Bool) (cs : List X) (i : ℕ) (c : X)
    → list_all t (map key cs) ≡ true → i < length cs → c ≡ get_or cs i c → t (key c) ≡ true
key_holds key t [] i c h l e = absurd (omega (arith, l))
key_holds key t (d ∷ cs) zero c h l e =
    ap (λ w. t (key w)) e ∙ (and_parts (t (key d)) (list_all t (map key cs)) h).0
key_holds key t (d ∷ cs) (suc i) c h l e =
    key_holds key t cs i c (and_parts (t (key d)) (list_all t (map key cs)) h).1 (omega arith) e

from_here : {X : Type 0} (key : X → Identity) (x : Identity) (d : X) (cs : List X)
    → series_before x (key d) ≡ true → list_all (series_before (key d)) (map key cs) ≡ true
    → list_all (λ c. series_before x (key c)) cs ≡ true
from_here key x d [] b h = refl
from_here key x d (c ∷ cs) b h =
    let p = and_parts (series_before (key d) (key c))
    (list_all (series_before (key d)) (map key cs)) h in
    and_from (series_before x (key c)) (list_all (λ c. series_before x (key c)) cs)
    (before-transitive x (key d) (key c) b p.0) (from_here key x d cs b p.1)

below_next : {X : Type 0} (key : X → Identity) (x : Identity) (cs : List X) (i : ℕ) (c : X)
    → is_ascending (map key cs) ≡ true → i < length cs → c ≡ get_or cs i c
    → series_before (key c) x ≡ true
    → list_all (λ d. series_before (key d) x) (take (suc i) cs) ≡ true
below_next key x [] i c u l e b = absurd (omega (arith, l))
below_next key x (d ∷ cs) zero c u l e b =
    and_from (series_before (key d) x) true (sym (ap (λ w. series_before (key w) x) e) ∙ b) refl
below_next key x (d ∷ cs) (suc i) c u l e b =
    let p =
    and_parts (list_all (series_before (key d)) (map key cs)) (is_ascending (map key cs)) u in
    and_from (series_before (key d) x) (list_all (λ d. series_before (key d) x) (take (suc i) cs))
    (before-transitive (key d) (key c) x
    (key_holds key (series_before (key d)) cs i c p.0 (omega arith) e) b)
    (below_next key x cs i c p.1 (omega arith) e b)

pub below_to : {X : Type 0} (key : X → Identity) (x : Identity) (cs : List X) (i : ℕ) (c : X)
    → is_ascending (map key cs) ≡ true → i < length cs → c ≡ get_or cs i c
    → series_before (key c) x ≡ true
    → list_all (λ d. series_before (key d) x) (take (i + 1) cs) ≡ true
below_to key x cs i c u l e b = ap (λ n. list_all (λ d. series_before (key d) x) (take n cs))
    (add-one i) ∙ below_next key x cs i c u l e b

pub above_from : {X : Type 0} (key : X → Identity) (x : Identity) (cs : List X) (i : ℕ) (c : X)
    → is_ascending (map key cs) ≡ true → i < length cs → c ≡ get_or cs i c
    → series_before x (key c) ≡ true
    → list_all (λ d. series_before x (key d)) (drop i cs) ≡ true
above_from key x [] i c u l e b = absurd (omega (arith, l))
above_from key x (d ∷ cs) zero c u l e b =
    let first : series_before x (key d) ≡ true = sym (ap (λ w. series_before x (key w)) e) ∙ b in
    and_from (series_before x (key d)) (list_all (λ d. series_before x (key d)) cs) first
    (from_here key x d cs first (and_parts (list_all (series_before (key d)) (map key cs))
    (is_ascending (map key cs)) u).0)
above_from key x (d ∷ cs) (suc i) c u l e b =
    above_from key x cs i c (and_parts (list_all (series_before (key d)) (map key cs))
    (is_ascending (map key cs)) u).1 (omega arith) e b

pub gap_between : (x : Identity) (cs : List CellView) (i : ℕ) → i ≤ length cs
    → list_all (λ d. series_before d.id x) (take i cs) ≡ true
    → list_all (λ d. series_before x d.id) (drop i cs) ≡ true → IsGap cs i x
gap_between x [] i l h k = omega (arith, l)
gap_between x (c ∷ cs) zero l h k =
    (and_parts (series_before x c.id) (list_all (λ d. series_before x d.id) cs) k).0
gap_between x (c ∷ cs) (suc i) l h k =
    let p = and_parts (series_before c.id x) (list_all (λ d. series_before d.id x) (take i cs)) h in
    (p.0, gap_between x cs i (omega (arith, l)) p.1 k)

-- what a comparison of two series says
pub when_equal : (x y : Identity) → series_cmp x y ≡ Equal → x ≡ y
unfolding same_series
when_equal x y e = same_series-exact x y (ap is_eq e)

pub when_less : (x y : Identity) → series_cmp x y ≡ Less → series_before x y ≡ true
unfolding series_before
when_less x y e = ap is_lt e

pub when_greater : (x y : Identity) → series_cmp x y ≡ Greater → series_before y x ≡ true
unfolding same_series series_before
when_greater x y e = before-or-after x y (ap is_eq e) (ap is_lt e)

pub same_at : {X : Type 0} (cs : List X) (i : ℕ) (c d : X) → i < length cs → c ≡ get_or cs i c
    → d ≡ get_or cs i d → c ≡ d
same_at [] i c d l e f = absurd (omega (arith, l))
same_at (w ∷ cs) zero c d l e f = e ∙ sym f
same_at (w ∷ cs) (suc i) c d l e f = same_at cs i c d (omega arith) e f

-- what is past of a series, in an opening in series order

before-not_same : (x y : Identity) → series_before x y ≡ true → same_series y x ≡ false
before-not_same x y h = same_series-turned y x ∙ before-apart x y h

pub past_found : (f : OpenedSeries → List ℕ) (x : Identity) (ss : List OpenedSeries) (i : ℕ)
    (s : OpenedSeries) → is_ascending (series_of ss) ≡ true → i < length ss → s ≡ get_or ss i s
    → s.series ≡ x → past f x ss ≡ f s
past_found f x [] i s u l e k = absurd (omega (arith, l))
past_found f x (t ∷ ss) zero s u l e k =
    let here : same_series t.series x ≡ true =
    ap (same_series t.series) (sym k ∙ ap (λ (w : OpenedSeries). w.series) e)
    ∙ same_series-refl t.series in
    rw here (ap f (sym e))
past_found f x (t ∷ ss) (suc i) s u l e k =
    let p = and_parts (list_all (series_before t.series) (series_of ss))
    (is_ascending (series_of ss)) u in
    let later : series_before t.series x ≡ true =
    ap (series_before t.series) (sym k)
    ∙ key_holds (λ (w : OpenedSeries). w.series) (series_before t.series) ss i s p.0
    (omega arith) e in
    rw (before-apart t.series x later) (past_found f x ss i s p.1 (omega arith) e k)

none_after : (f : OpenedSeries → List ℕ) (x : Identity) (ss : List OpenedSeries)
    → list_all (λ s. series_before x s.series) ss ≡ true → past f x ss ≡ zeros (row_length x.kind)
none_after f x [] h = refl
none_after f x (t ∷ ss) h =
    let p = and_parts (series_before x t.series) (list_all (λ s. series_before x s.series) ss) h in
    rw (before-not_same x t.series p.0) (none_after f x ss p.1)

pub none_past : (f : OpenedSeries → List ℕ) (x : Identity) (ss : List OpenedSeries) (i : ℕ)
    → list_all (λ s. series_before s.series x) (take i ss) ≡ true
    → list_all (λ s. series_before x s.series) (drop i ss) ≡ true
    → past f x ss ≡ zeros (row_length x.kind)
none_past f x [] i h k = refl
none_past f x (t ∷ ss) zero h k = none_after f x (t ∷ ss) k
none_past f x (t ∷ ss) (suc i) h k =
    let p = and_parts (series_before t.series x)
    (list_all (λ s. series_before s.series x) (take i ss)) h in
    rw (before-apart t.series x p.0) (none_past f x ss i p.1 k)

pub middle_lt : (low high : ℕ) → low < high → low + (high - low) / 2 < high
middle_lt low high h = omega arith
