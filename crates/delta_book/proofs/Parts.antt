-- A part of each point of a batch.
use Rattle.std.proofs.Common.{◌≡◌, ℕ, ◌+◌, ◌-◌, ◌<◌, arith, cond, ◌||◌, List, [], ◌∷◌, ◌++◌, map}
use Rattle.std.proofs.Common.{take, get_or, length, max, refl, ap, sym, ◌∙◌}
use Rattle.std.specs.Prelude.{if◌then◌else◌}
use Rattle.std.specs.List.{list_any}
use Rattle.std.proofs.lemmas.List.{map-append}
use Rattle.series_id.specs.Identity.{Identity}
use Rattle.metric_events.specs.DataPoint.{DataPoint}
use Rattle.metric_events.specs.Points.{admitted}
use Rattle.metric_events.specs.Series.{is_of, series_count}
use Rattle.metric_events.specs.declared.accepted.Accepted.{Accepted}
use Rattle.delta_book.specs.inner.Batches.{is_point_of, frontier_in}
use Rattle.delta_book.specs.inner.Parts.{part_of, parts_of}
use Rattle.delta_book.specs.declared.cells.Fill.{Fill}
use Rattle.delta_book.specs.declared.cells.Fill.TheVariants.{Point}
use Rattle.delta_book.proofs.Tables.{take_next}
use Rattle.delta_book.proofs.CountedSeries.{count_accepted, count_new}

pub whole_parts : (ps : List DataPoint) → parts_of Point ps ≡ ps
whole_parts [] = refl
whole_parts (p ∷ ps) = ap (λ qs. p ∷ qs) (whole_parts ps)

-- one more
pub parts_more : (fill : Fill) (i : ℕ) (ps : List DataPoint) (p : DataPoint) → i < length ps
    → p ≡ get_or ps i p
    → parts_of fill (take (i + 1) ps) ≡ parts_of fill (take i ps) ++ part_of fill p ∷ []
parts_more fill i ps p l e =
    ap (parts_of fill) (take_next ps i p l e) ∙ map-append (part_of fill) (take i ps) (p ∷ [])

-- the last of those that are left
pub last_point : (ps : List DataPoint) (k : ℕ) (p : DataPoint) → k < length ps
    → p ≡ get_or ps (length ps - 1 - k) p
    → take (length ps - k) ps ≡ take (length ps - (k + 1)) ps ++ p ∷ []
last_point ps k p l e =
    let j = length ps - 1 - k in
    let here : length ps - k ≡ j + 1 = omega (arith, l) in
    let next : length ps - (k + 1) ≡ j = omega (arith, l) in
    ap (λ n. take n ps) here
    ∙ (take_next ps j p (omega (arith, l)) e ∙ ap (λ n. take n ps ++ p ∷ []) (sym next))

-- series and spans stay

pub frontier-parts : (x : Identity) (fill : Fill) (ps : List DataPoint)
    → frontier_in x (parts_of fill ps) ≡ frontier_in x ps
frontier-parts x fill [] = refl
frontier-parts x fill (p ∷ ps) =
    ap (λ n. cond (is_point_of x p) (max p.span.end n) n) (frontier-parts x fill ps)

pub named-parts : (x : Identity) (fill : Fill) (ps : List DataPoint)
    → list_any (is_point_of x) (parts_of fill ps) ≡ list_any (is_point_of x) ps
named-parts x fill [] = refl
named-parts x fill (p ∷ ps) = ap (λ v. is_point_of x p || v) (named-parts x fill ps)

pub count-parts : (fill : Fill) (b : ℕ) (s : List ℕ) (qs : List Accepted) (ps : List DataPoint)
    → series_count (qs ++ map (admitted b s) (parts_of fill ps))
    ≡ series_count (qs ++ map (admitted b s) ps)
count-parts fill b s [] [] = refl
count-parts fill b s [] (p ∷ ps) =
    let t = list_any (is_point_of p.series) ps in
    count_new (part_of fill p) (parts_of fill ps) b s t (sym (named-parts p.series fill ps))
    ∙ (ap (λ n. if t then n else 1 + n) (count-parts fill b s [] ps)
    ∙ sym (count_new p ps b s t refl))
count-parts fill b s (a ∷ qs) ps =
    let r = list_any (is_of a.point.series) qs in
    let t = list_any (is_point_of a.point.series) ps in
    count_accepted a qs (parts_of fill ps) b s r t refl (sym (named-parts a.point.series fill ps))
    ∙ (ap (λ n. if r || t then n else 1 + n) (count-parts fill b s qs ps)
    ∙ sym (count_accepted a qs ps b s r t refl refl))
