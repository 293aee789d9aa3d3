-- What follows from points lies in their series, spans, rows and senders, not in their batches or
-- states.
use Rattle.std.proofs.Common.{◌≡◌, ℕ, Bool, true, false, cond, ◌&&◌, List, [], ◌∷◌, ◌++◌, map, max}
use Rattle.std.proofs.Common.{refl, ap, ◌∙◌, arith, Some}
use Rattle.std.specs.Prelude.{fold}
use Rattle.std.specs.declared.option.Option.{Option}
use Rattle.std.specs.List.{list_any, list_all}
use Rattle.series_id.specs.Identity.{Identity, row_length}
use Rattle.metric_events.specs.Interval.{Interval, joined_to}
use Rattle.metric_events.specs.Rows.{add_rows}
use Rattle.metric_events.specs.DataPoint.{DataPoint}
use Rattle.metric_events.specs.Points.{admitted}
use Rattle.metric_events.specs.Series.{is_of, of_series, owner, frontier, hull, row_sum, sum_of}
use Rattle.metric_events.specs.Series.{merged, series_in_order, with_series}
use Rattle.metric_events.specs.Recovery.{bare}
use Rattle.metric_events.specs.declared.accepted.Accepted.{Accepted}
use Rattle.metric_events.proofs.Fits.{row_sum-map, sum_of-map}
use Rattle.metric_events.proofs.Sums.{row_sum-append}
use Rattle.std.proofs.lemmas.List.Elements.{filter-append}

pub bare_hull : (qs : List Accepted) → hull (map bare qs) ≡ hull qs
bare_hull [] = refl
bare_hull (a ∷ qs) = ap (λ o. Some (joined_to a.point.span o)) (bare_hull qs)

pub bare_sum : (x : Identity) (qs : List Accepted) → sum_of x (map bare qs) ≡ sum_of x qs
bare_sum x qs = sum_of-map x bare (λ a. refl) qs

pub bare_owner : (x : Identity) (qs : List Accepted) → owner x (map bare qs) ≡ owner x qs
bare_owner x [] = refl
bare_owner x (a ∷ qs) = ap (λ s. cond (is_of x a) a.sender s) (bare_owner x qs)

pub bare_frontier : (x : Identity) (qs : List Accepted) → frontier x (map bare qs) ≡ frontier x qs
bare_frontier x [] = refl
bare_frontier x (a ∷ qs) =
    ap (λ n. cond (is_of x a) (max a.point.span.end n) n) (bare_frontier x qs)

bare_fold : (xs : List Identity) (qs : List Accepted)
    → fold with_series xs (map bare qs) ≡ fold with_series xs qs
bare_fold xs [] = refl
bare_fold xs (a ∷ qs) = bare_fold (with_series xs a) qs

pub bare_order : (qs : List Accepted) → series_in_order (map bare qs) ≡ series_in_order qs
bare_order qs = bare_fold [] qs

pub bare_merged : (x : Identity) (qs : List Accepted) → merged x (map bare qs) ≡ merged x qs
bare_merged x [] = refl
bare_merged x (a ∷ qs) =
    ap (λ o. point_of (joined_to a.point.span o)
    (add_rows a.point.row (row_sum (row_length x.kind) (map bare qs)))) (bare_hull qs)
    ∙ ap (λ r. point_of (joined_to a.point.span (hull qs)) (add_rows a.point.row r))
    (row_sum-map (row_length x.kind) bare (λ a. refl) qs)
  where
    point_of : Interval → List ℕ → Option DataPoint
    point_of span row = Some (record { series = x; span = span; row = row })

pub bare_admitted : (n : ℕ) (s : List ℕ) (ps : List DataPoint)
    → map bare (map (admitted n s) ps) ≡ map (admitted 0 s) ps
bare_admitted n s [] = refl
bare_admitted n s (p ∷ ps) = ap (λ qs. admitted 0 s p ∷ qs) (bare_admitted n s ps)

pub all_bare : (t : Accepted → Bool) → ((a : Accepted) → t (bare a) ≡ t a) → (qs : List Accepted)
    → list_all t (map bare qs) ≡ list_all t qs
all_bare t k [] = refl
all_bare t k (a ∷ qs) =
    ap (λ v. v && list_all t (map bare qs)) (k a) ∙ ap (λ v. t a && v) (all_bare t k qs)

-- of two lists, one behind the other

pub owner_append : (x : Identity) (qs rs : List Accepted)
    → owner x (qs ++ rs) ≡ cond (list_any (is_of x) qs) (owner x qs) (owner x rs)
owner_append x [] rs = refl
owner_append x (a ∷ qs) rs = both (is_of x a) refl (owner_append x qs rs)
  where
    both : (v : Bool) → is_of x a ≡ v
        → owner x (qs ++ rs) ≡ cond (list_any (is_of x) qs) (owner x qs) (owner x rs)
        → owner x (a ∷ (qs ++ rs))
        ≡ cond (list_any (is_of x) (a ∷ qs)) (owner x (a ∷ qs)) (owner x rs)
    both true e r = rw e refl
    both false e r = rw e r

pub frontier_append : (x : Identity) (qs rs : List Accepted)
    → frontier x (qs ++ rs) ≡ max (frontier x qs) (frontier x rs)
frontier_append x [] rs = omega arith
frontier_append x (a ∷ qs) rs = both (is_of x a) refl (frontier_append x qs rs)
  where
    both : (v : Bool) → is_of x a ≡ v → frontier x (qs ++ rs) ≡ max (frontier x qs) (frontier x rs)
        → frontier x (a ∷ (qs ++ rs)) ≡ max (frontier x (a ∷ qs)) (frontier x rs)
    both true e r = rw e (omega (arith, r))
    both false e r = rw e r

pub sum_append : (x : Identity) (qs rs : List Accepted)
    → sum_of x (qs ++ rs) ≡ add_rows (sum_of x qs) (sum_of x rs)
sum_append x qs rs = ap (row_sum (row_length x.kind)) (filter-append (is_of x) qs rs)
    ∙ row_sum-append (row_length x.kind) (of_series x qs) (of_series x rs)

-- a series without a point

pub none_frontier : (x : Identity) (qs : List Accepted) → list_any (is_of x) qs ≡ false
    → frontier x qs ≡ 0
none_frontier x [] h = refl
none_frontier x (a ∷ qs) h = both (is_of x a) refl (none_frontier x qs)
  where
    both : (v : Bool) → is_of x a ≡ v → (list_any (is_of x) qs ≡ false → frontier x qs ≡ 0)
        → frontier x (a ∷ qs) ≡ 0
    both true e r = absurd (let q : true ≡ false = rw e at h in cc)
    both false e r = rw e (r (rw e at h))

pub none_owner : (x : Identity) (qs : List Accepted) → list_any (is_of x) qs ≡ false
    → owner x qs ≡ []
none_owner x [] h = refl
none_owner x (a ∷ qs) h = both (is_of x a) refl (none_owner x qs)
  where
    both : (v : Bool) → is_of x a ≡ v → (list_any (is_of x) qs ≡ false → owner x qs ≡ [])
        → owner x (a ∷ qs) ≡ []
    both true e r = absurd (let q : true ≡ false = rw e at h in cc)
    both false e r = rw e (r (rw e at h))
