-- A sum with one more point, and the sums of a whole batch.
use Rattle.std.proofs.Common.{◌≡◌, ℕ, ◌+◌, ◌<◌, Bool, true, false, not, List, [], ◌∷◌, ◌++◌, map}
use Rattle.std.proofs.Common.{take, drop, get_or, length, zero, suc, refl, ap, sym, ◌∙◌, subst}
use Rattle.std.proofs.Common.{arith, append_assoc}
use Rattle.std.proofs.lemmas.Bool.{or_parts, or_from, not-false, true_from_ne_false}
use Rattle.std.proofs.lemmas.List.{map-append, take-append-drop}
use Rattle.std.proofs.lemmas.List.Elements.{filter-append}
use Rattle.series_id.specs.Identity.{Identity, row_length}
use Rattle.series_id.proofs.Order.{same_series-exact}
use Rattle.metric_events.specs.DataPoint.{DataPoint}
use Rattle.metric_events.specs.Points.{admitted}
use Rattle.metric_events.specs.Rows.{add_rows, fits}
use Rattle.metric_events.specs.Series.{is_of, of_series, row_sum, sum_of}
use Rattle.metric_events.specs.Legal.{is_over, is_too_large}
use Rattle.metric_events.specs.declared.accepted.Accepted.{Accepted}
use Rattle.metric_events.proofs.Fits.{fits_le}
use Rattle.metric_events.proofs.Identities.{same_of}
use Rattle.metric_events.proofs.Sums.{RowLe, row_sum_first_le}
use Rattle.series_cell.proofs.Points.{row_sum_push}
use Rattle.delta_book.specs.inner.Puts.{fits_with}
use Rattle.delta_book.proofs.Tables.{take_next}
use Rattle.delta_book.proofs.PutIn.{of_more, of_own}

-- the sum with a point
sum_put : (x : Identity) (qs : List Accepted) (a : Accepted) → is_of x a ≡ true
    → sum_of x (qs ++ a ∷ []) ≡ add_rows (sum_of x qs) a.point.row
sum_put x qs a e = ap (row_sum (row_length x.kind)) (of_own x qs a e)
    ∙ row_sum_push (row_length x.kind) (of_series x qs) a

over_put : (b : ℕ) (s : List ℕ) (qs : List Accepted) (p : DataPoint)
    → is_over (qs ++ admitted b s p ∷ []) p ≡ not (fits_with qs p)
over_put b s qs p = ap (λ r. not (fits p.series.kind r))
    (sum_put p.series qs (admitted b s p) (same_of p.series p.series refl))

-- with a point that fits, the sums of other points stay within the limits

other_within : (b : ℕ) (s : List ℕ) (qs : List Accepted) (p x : DataPoint) → fits_with qs p ≡ true
    → is_over qs x ≡ false → is_over (qs ++ admitted b s p ∷ []) x ≡ false
other_within b s qs p x f o = both (is_of x.series (admitted b s p)) refl
  where
    both : (v : Bool) → is_of x.series (admitted b s p) ≡ v
        → is_over (qs ++ admitted b s p ∷ []) x ≡ false
    both true e = subst (λ (y : Identity). not (fits y.kind (sum_of y (qs ++ admitted b s p ∷ [])))
        ≡ false) (same_series-exact p.series x.series e) (over_put b s qs p ∙ ap not f)
    both false e = ap (λ rs. not (fits x.series.kind (row_sum (row_length x.series.kind) rs)))
        (of_more x.series qs (admitted b s p) e) ∙ o

others_within : (b : ℕ) (s : List ℕ) (qs : List Accepted) (p : DataPoint) (xs : List DataPoint)
    → fits_with qs p ≡ true → is_too_large qs xs ≡ false
    → is_too_large (qs ++ admitted b s p ∷ []) (xs ++ p ∷ []) ≡ false
others_within b s qs p [] f h =
    or_from (is_over (qs ++ admitted b s p ∷ []) p) false (over_put b s qs p ∙ ap not f) refl
others_within b s qs p (x ∷ xs) f h =
    let o = or_parts (is_over qs x) (is_too_large qs xs) h in
    or_from (is_over (qs ++ admitted b s p ∷ []) x)
    (is_too_large (qs ++ admitted b s p ∷ []) (xs ++ p ∷ [])) (other_within b s qs p x f o.0)
    (others_within b s qs p xs f o.1)

pub first_points : (b : ℕ) (s : List ℕ) (qs : List Accepted) (ps : List DataPoint) (i : ℕ)
    (p : DataPoint) → i < length ps → p ≡ get_or ps i p
    → qs ++ map (admitted b s) (take (i + 1) ps)
    ≡ (qs ++ map (admitted b s) (take i ps)) ++ admitted b s p ∷ []
first_points b s qs ps i p l e = ap (λ ys. qs ++ map (admitted b s) ys) (take_next ps i p l e)
    ∙ (ap (λ ys. qs ++ ys) (map-append (admitted b s) (take i ps) (p ∷ []))
    ∙ sym (append_assoc qs (map (admitted b s) (take i ps)) (admitted b s p ∷ [])))

pub within_more : (b : ℕ) (s : List ℕ) (qs : List Accepted) (ps : List DataPoint) (i : ℕ)
    (p : DataPoint) → i < length ps → p ≡ get_or ps i p
    → fits_with (qs ++ map (admitted b s) (take i ps)) p ≡ true
    → is_too_large (qs ++ map (admitted b s) (take i ps)) (take i ps) ≡ false
    → is_too_large (qs ++ map (admitted b s) (take (i + 1) ps)) (take (i + 1) ps)
    ≡ false
within_more b s qs ps i p l e f h =
    ap (λ rs. is_too_large rs (take (i + 1) ps)) (first_points b s qs ps i p l e)
    ∙ (ap (is_too_large ((qs ++ map (admitted b s) (take i ps)) ++ admitted b s p ∷ []))
    (take_next ps i p l e)
    ∙ others_within b s (qs ++ map (admitted b s) (take i ps)) p (take i ps) f h)

-- a point that doesn't fit makes its batch too large

sum_first : (x : Identity) (qs rs : List Accepted) → RowLe (sum_of x qs) (sum_of x (qs ++ rs))
sum_first x qs rs = subst (λ ys. RowLe (sum_of x qs) (row_sum (row_length x.kind) ys))
    (sym (filter-append (is_of x) qs rs))
    (row_sum_first_le (row_length x.kind) (of_series x qs) (of_series x rs))

within_at : (rs : List Accepted) (ps : List DataPoint) (i : ℕ) (p : DataPoint) → i < length ps
    → p ≡ get_or ps i p → is_too_large rs ps ≡ false → is_over rs p ≡ false
within_at rs [] i p l e h = absurd (omega (arith, l))
within_at rs (q ∷ ps) zero p l e h =
    ap (is_over rs) e ∙ (or_parts (is_over rs q) (is_too_large rs ps) h).0
within_at rs (q ∷ ps) (suc i) p l e h =
    within_at rs ps i p (omega (arith, l)) e (or_parts (is_over rs q) (is_too_large rs ps) h).1

pub over_large : (b : ℕ) (s : List ℕ) (qs : List Accepted) (ps : List DataPoint) (i : ℕ)
    (p : DataPoint) → i < length ps → p ≡ get_or ps i p
    → fits_with (qs ++ map (admitted b s) (take i ps)) p ≡ false
    → is_too_large (qs ++ map (admitted b s) ps) ps ≡ true
over_large b s qs ps i p l e f = true_from_ne_false (is_too_large all ps) none_over
  where
    all : List Accepted
    all = qs ++ map (admitted b s) ps

    before : List Accepted
    before = qs ++ map (admitted b s) (take i ps)

    split : all ≡ (before ++ admitted b s p ∷ []) ++ map (admitted b s) (drop (i + 1) ps)
    split =
        ap (λ ys. qs ++ map (admitted b s) ys) (sym (take-append-drop (i + 1) ps))
        ∙ (ap (λ ys. qs ++ ys) (map-append (admitted b s) (take (i + 1) ps) (drop (i + 1) ps))
        ∙ (sym (append_assoc qs (map (admitted b s) (take (i + 1) ps))
        (map (admitted b s) (drop (i + 1) ps)))
        ∙ ap (λ ys. ys ++ map (admitted b s) (drop (i + 1) ps)) (first_points b s qs ps i p l e)))

    less : RowLe (add_rows (sum_of p.series before) p.row) (sum_of p.series all)
    less = subst (λ rs. RowLe (add_rows (sum_of p.series before) p.row) (sum_of p.series rs))
        (sym split) (subst (λ r. RowLe r
        (sum_of p.series ((before ++ admitted b s p ∷ [])
        ++ map (admitted b s) (drop (i + 1) ps))))
        (sum_put p.series before (admitted b s p) (same_of p.series p.series refl))
        (sum_first p.series (before ++ admitted b s p ∷ [])
        (map (admitted b s) (drop (i + 1) ps))))

    none_over : is_too_large all ps ≡ false → ⊥
    none_over m =
        let fine = fits_le p.series.kind (add_rows (sum_of p.series before) p.row)
        (sum_of p.series all) less (not-false (fits p.series.kind (sum_of p.series all))
        (within_at all ps i p l e m)) in
        let q : true ≡ false = sym fine ∙ f in cc
