-- The limits of a batch are the same under any number.
use Rattle.std.proofs.Common.{◌≡◌, ℕ, ◌+◌, true, false, cond, not, ◌||◌, List, [], ◌∷◌, ◌++◌, map}
use Rattle.std.proofs.Common.{filter, refl, ap, sym, ◌∙◌}
use Rattle.std.specs.Prelude.{if◌then◌else◌}
use Rattle.std.specs.List.{list_any}
use Rattle.series_id.specs.Identity.{Identity, row_length}
use Rattle.metric_events.specs.DataPoint.{DataPoint}
use Rattle.metric_events.specs.Rows.{fits, add_rows}
use Rattle.metric_events.specs.Points.{admitted}
use Rattle.metric_events.specs.Series.{is_of, series_count, row_sum, sum_of}
use Rattle.metric_events.specs.Legal.{is_over, is_too_large}
use Rattle.metric_events.specs.declared.accepted.Accepted.{Accepted}
use Rattle.delta_book.specs.inner.Batches.{is_point_of}
use Rattle.delta_book.proofs.CountedSeries.{count_accepted, count_new}

-- as many series
pub same_count : (b c : ℕ) (s : List ℕ) (qs : List Accepted) (ps : List DataPoint)
    → series_count (qs ++ map (admitted b s) ps) ≡ series_count (qs ++ map (admitted c s) ps)
same_count b c s [] [] = refl
same_count b c s [] (p ∷ ps) =
    let t = list_any (is_point_of p.series) ps in
    count_new p ps b s t refl ∙ (ap (λ n. if t then n else 1 + n) (same_count b c s [] ps)
    ∙ sym (count_new p ps c s t refl))
same_count b c s (a ∷ qs) ps =
    let r = list_any (is_of a.point.series) qs in
    let t = list_any (is_point_of a.point.series) ps in
    count_accepted a qs ps b s r t refl refl
    ∙ (ap (λ n. if r || t then n else 1 + n) (same_count b c s qs ps)
    ∙ sym (count_accepted a qs ps c s r t refl refl))

-- the same sums
same_rows : (b c : ℕ) (s : List ℕ) (x : Identity) (n : ℕ) (qs : List Accepted) (ps : List DataPoint)
    → row_sum n (filter (is_of x) (qs ++ map (admitted b s) ps))
    ≡ row_sum n (filter (is_of x) (qs ++ map (admitted c s) ps))
same_rows b c s x n [] [] = refl
same_rows b c s x n [] (p ∷ ps) =
    elim (is_point_of x p) as (λ v. row_sum n
    (cond v (admitted b s p ∷ filter (is_of x) (map (admitted b s) ps))
    (filter (is_of x) (map (admitted b s) ps)))
    ≡ row_sum n (cond v (admitted c s p ∷ filter (is_of x) (map (admitted c s) ps))
    (filter (is_of x) (map (admitted c s) ps)))) [
      | true ↦ ap (add_rows p.row) (same_rows b c s x n [] ps)
      | false ↦ same_rows b c s x n [] ps
    ]
same_rows b c s x n (a ∷ qs) ps =
    elim (is_of x a) as (λ v. row_sum n
    (cond v (a ∷ filter (is_of x) (qs ++ map (admitted b s) ps))
    (filter (is_of x) (qs ++ map (admitted b s) ps)))
    ≡ row_sum n (cond v (a ∷ filter (is_of x) (qs ++ map (admitted c s) ps))
    (filter (is_of x) (qs ++ map (admitted c s) ps)))) [
      | true ↦ ap (add_rows a.point.row) (same_rows b c s x n qs ps)
      | false ↦ same_rows b c s x n qs ps
    ]

any_over : (qs rs : List Accepted) (ps : List DataPoint)
    → ((x : Identity) → sum_of x qs ≡ sum_of x rs) → is_too_large qs ps ≡ is_too_large rs ps
any_over qs rs [] h = refl
any_over qs rs (p ∷ ps) h = ap (λ w. not (fits p.series.kind w) || is_too_large qs ps) (h p.series)
    ∙ ap (λ v. is_over rs p || v) (any_over qs rs ps h)

-- so they are over a limit under both or none
pub same_large : (b c : ℕ) (s : List ℕ) (qs : List Accepted) (ps : List DataPoint)
    → is_too_large (qs ++ map (admitted b s) ps) ps ≡ is_too_large (qs ++ map (admitted c s) ps) ps
same_large b c s qs ps = any_over (qs ++ map (admitted b s) ps) (qs ++ map (admitted c s) ps) ps
    (λ x. same_rows b c s x (row_length x.kind) qs ps)
