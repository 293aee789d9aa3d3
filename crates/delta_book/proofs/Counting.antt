-- How many series there are, counted in series order.
use Rattle.std.proofs.Common.{◌≡◌, ℕ, ◌+◌, ◌<◌, ◌≤◌, Bool, true, false, not, ◌||◌, List, [], ◌∷◌}
use Rattle.std.proofs.Common.{◌++◌, map, take, filter, get_or, length, refl, ap, sym, ◌∙◌, subst}
use Rattle.std.proofs.Common.{arith}
use Rattle.std.specs.Prelude.{if◌then◌else◌}
use Rattle.std.specs.List.{list_any, list_all}
use Rattle.std.proofs.lemmas.Bool.{and_parts, and_from, or_left, or_right}
use Rattle.std.proofs.lemmas.Grind.{fold-append}
use Rattle.std.proofs.lemmas.List.{append_assoc, take_all, map-append, length-map}
use Rattle.std.proofs.lemmas.List.Folds.{list_any-append}
use Rattle.series_id.specs.Identity.{Identity}
use Rattle.series_id.specs.Order.{same_series, series_before}
use Rattle.series_id.proofs.Order.{same_series-exact, before-transitive}
use Rattle.metric_events.specs.DataPoint.{DataPoint}
use Rattle.metric_events.specs.Points.{points, admitted, is_among}
use Rattle.metric_events.specs.Series.{is_of, series_in_order, series_count, placed, with_series}
use Rattle.metric_events.specs.Series.{is_ascending}
use Rattle.metric_events.specs.declared.limits.TheConstants.{MAX_SERIES}
use Rattle.metric_events.specs.declared.accepted.Accepted.{Accepted}
use Rattle.metric_events.proofs.Identities.{same_series-turned, same_of}
use Rattle.metric_events.proofs.InOrder.{series_ascend, not_among}
use Rattle.metric_events.proofs.SeriesOnce.{among_in_order, in_order_few}
use Rattle.metric_events.proofs.Lists.{all_weaker, all_both, any_none, any_filter_same}
use Rattle.metric_events.proofs.Lists.{length_without}
use Rattle.metric_events.proofs.WithinLimits.{few_series}
use Rattle.series_cell.specs.Cells.{CellView}
use Rattle.delta_book.specs.inner.Batches.{is_point_of}
use Rattle.delta_book.specs.Tables.{AreCells, AreBooked, id_of}
use Rattle.delta_book.proofs.CountedSeries.{listed-admitted}
use Rattle.delta_book.proofs.Tables.{take_next}

-- as many as the series in order

left_in : (x : Identity) (xs : List Identity) (qs : List Accepted) → list_any (is_of x) qs ≡ false
    → list_all (λ a. is_among a.point.series xs) qs ≡ true
    → list_all (λ a. is_among a.point.series (filter (λ y. not (same_series x y)) xs)) qs ≡ true
left_in x xs qs n h = all_both (λ a. not (is_of x a)) (λ a. is_among a.point.series xs)
    (λ a. is_among a.point.series (filter (λ y. not (same_series x y)) xs)) still qs
    (any_none (is_of x) qs n) h
  where
    still : (a : Accepted) → not (is_of x a) ≡ true → is_among a.point.series xs ≡ true
        → is_among a.point.series (filter (λ y. not (same_series x y)) xs) ≡ true
    still a m k = any_filter_same (same_series a.point.series) (λ y. not (same_series x y))
        (λ y e. subst (λ z. not (same_series x z) ≡ true) (same_series-exact a.point.series y e)
        (ap not (same_series-turned x a.point.series) ∙ m)) xs ∙ k

count_within : (qs : List Accepted) (xs : List Identity)
    → list_all (λ a. is_among a.point.series xs) qs ≡ true → series_count qs ≤ length xs
count_within [] xs h = omega arith
count_within (a ∷ qs) xs h = both (list_any (is_of a.point.series) qs) refl (count_within qs)
  where
    p : (is_among a.point.series xs ≡ true) × (list_all (λ b. is_among b.point.series xs) qs ≡ true)
    p = and_parts (is_among a.point.series xs) (list_all (λ b. is_among b.point.series xs) qs) h

    both : (v : Bool) → list_any (is_of a.point.series) qs ≡ v
        → ((ys : List Identity) → list_all (λ b. is_among b.point.series ys) qs ≡ true
        → series_count qs ≤ length ys) → series_count (a ∷ qs) ≤ length xs
    both true e r = rw e (r xs p.1)
    both false e r =
        let w : list_all (λ b. is_among b.point.series
        (filter (λ y. not (same_series a.point.series y)) xs)) qs ≡ true =
        left_in a.point.series xs qs e p.1 in
        rw e (omega (
          arith,
          r (filter (λ y. not (same_series a.point.series y)) xs) w,
          length_without (same_series a.point.series) (λ y. not (same_series a.point.series y))
              (λ y m. ap not m) xs p.0,
        ))

-- where each series of the points is among these, each point's is
pub each_in : (xs : List Identity) (qs : List Accepted)
    → ((x : Identity) → list_any (is_of x) qs ≡ true → is_among x xs ≡ true)
    → list_all (λ a. is_among a.point.series xs) qs ≡ true
each_in xs [] k = refl
each_in xs (a ∷ qs) k =
    and_from (is_among a.point.series xs) (list_all (λ a. is_among a.point.series xs) qs)
    (k a.point.series (or_left (is_of a.point.series a) (list_any (is_of a.point.series) qs)
    (same_of a.point.series a.point.series refl)))
    (each_in xs qs (λ x m. k x (or_right (is_of x a) (list_any (is_of x) qs) m)))

pub count_is : (qs : List Accepted) → length (series_in_order qs) ≡ series_count qs
count_is qs = omega (
  arith,
  in_order_few qs,
  count_within qs (series_in_order qs)
      (each_in (series_in_order qs) qs (λ x m. among_in_order x qs ∙ m)),
)

-- one more, where it is not among them

pub length_placed : (x : Identity) (xs : List Identity) → is_ascending xs ≡ true
    → length (placed x xs) ≡ length xs + (if is_among x xs then 0 else 1)
length_placed x [] h = refl
length_placed x (y ∷ ys) h =
    both (same_series x y) (series_before x y) refl refl (length_placed x ys p.1)
  where
    p : (list_all (series_before y) ys ≡ true) × (is_ascending ys ≡ true)
    p = and_parts (list_all (series_before y) ys) (is_ascending ys) h

    both : (v w : Bool) → same_series x y ≡ v → series_before x y ≡ w
        → length (placed x ys) ≡ length ys + (if is_among x ys then 0 else 1)
        → length (placed x (y ∷ ys))
        ≡ length (y ∷ ys) + (if (same_series x y || is_among x ys) then 0 else 1)
    both true w e f r = rw e (omega arith)
    both false true e f r =
        let n : is_among x ys ≡ false =
        not_among x ys (all_weaker (series_before y) (series_before x)
        (λ z k. before-transitive x y z f k) ys p.0) in
        rw (e, f, n) (omega arith)
    both false false e f r = rw (e, f) (omega (arith, r))

in_order_more : (qs : List Accepted) (a : Accepted)
    → series_in_order (qs ++ a ∷ []) ≡ placed a.point.series (series_in_order qs)
in_order_more qs a = fold-append with_series [] qs (a ∷ [])

-- the count goes on by one where a series is not known
pub counted_on : (cs : List CellView) (ps : List DataPoint) (j n : ℕ) (p : DataPoint) (x : Identity)
    (known : Bool) (one : ℕ) (b : ℕ) (s : List ℕ) (qs : List Accepted) (before : List DataPoint)
    → AreCells cs qs → j < length ps → p ≡ get_or ps j p → x ≡ p.series → before ≡ take j ps
    → known ≡ (is_among x (map id_of cs) || list_any (is_point_of x) before)
    → one ≡ (if known then 0 else 1)
    → n ≡ length (series_in_order (qs ++ map (admitted b s) (take j ps)))
    → n + one
    ≡ length (series_in_order (qs ++ map (admitted b s) (take (j + 1) ps)))
counted_on cs ps j n p x known one b s qs before h l e sx sb k o r =
    let rs : List Accepted = qs ++ map (admitted b s) (take j ps) in
    let more : qs ++ map (admitted b s) (take (j + 1) ps) ≡ rs ++ admitted b s p ∷ [] =
    ap (λ ys. qs ++ map (admitted b s) ys) (take_next ps j p l e)
    ∙ (ap (λ ys. qs ++ ys) (map-append (admitted b s) (take j ps) (p ∷ []))
    ∙ sym (append_assoc qs (map (admitted b s) (take j ps)) (admitted b s p ∷ []))) in
    let there : is_among p.series (series_in_order rs) ≡ known =
    among_in_order p.series rs
    ∙ (list_any-append (is_of p.series) qs (map (admitted b s) (take j ps))
    ∙ (ap (λ v. list_any (is_of p.series) qs || v) (listed-admitted p.series b s (take j ps))
    ∙ (ap (λ v. v || list_any (is_point_of p.series) (take j ps))
    (sym (ap (is_among p.series) h.ids ∙ among_in_order p.series qs))
    ∙ (ap (λ ys. is_among p.series (map id_of cs) || list_any (is_point_of p.series) ys) (sym sb)
    ∙ (ap (λ y. is_among y (map id_of cs) || list_any (is_point_of y) before) (sym sx) ∙ sym k)))))
    in
    let grown : length (series_in_order (rs ++ admitted b s p ∷ []))
    ≡ length (series_in_order rs) + one =
    ap length (in_order_more rs (admitted b s p))
    ∙ (length_placed p.series (series_in_order rs) (series_ascend rs)
    ∙ ap (λ m. length (series_in_order rs) + m)
    (ap (λ v. if v then 0 else 1) there ∙ sym o)) in
    ap (λ m. m + one) r ∙ (sym grown ∙ ap (λ ys. length (series_in_order ys)) (sym more))

pub counted_none : (cs : List CellView) (qs : List Accepted) → AreCells cs qs
    → length cs ≡ length (series_in_order qs)
counted_none cs qs h = sym (length-map cs id_of) ∙ ap length h.ids

pub counted_all : (n j : ℕ) (b : ℕ) (s : List ℕ) (qs : List Accepted) (ps : List DataPoint)
    → length ps ≤ j → n ≡ length (series_in_order (qs ++ map (admitted b s) (take j ps)))
    → n ≡ series_count (qs ++ map (admitted b s) ps)
counted_all n j b s qs ps l r = r ∙ (ap
    (λ (ys : List DataPoint). length (series_in_order (qs ++ map (admitted b s) ys)))
    (take_all j ps l) ∙ count_is (qs ++ map (admitted b s) ps))

-- no book has more cells than the limit on series
pub few_cells : (cs : List CellView) → AreBooked cs → length cs ≤ MAX_SERIES
few_cells cs h =
    omega (arith, counted_none cs (points h.0) h.1.1, count_is (points h.0), few_series h.0 h.1.0)

pub one_at_most : (known : Bool) (one : ℕ) → one ≡ (if known then 0 else 1) → one ≤ 1
one_at_most true one e = omega (arith, e)
one_at_most false one e = omega (arith, e)
