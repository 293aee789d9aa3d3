-- The words of a histogram's point say it.
use Rattle.std.proofs.Common.{◌≡◌, ℕ, ℤ, ◌+◌, ◌-◌, ◌≤◌, true, false, leb, List, [], ◌∷◌, length}
use Rattle.std.proofs.Common.{sum, Option, Some, None, refl, sym, ap, ◌∙◌, arith}
use Rattle.std.proofs.lemmas.Bool.{leb-true, le-ltb, and_parts, eq-eqb}
use Rattle.series_id.specs.Identity.{row_length}
use Rattle.series_id.specs.declared.kinds.Kind.{Kind}
use Rattle.series_id.specs.declared.kinds.Kind.TheVariants.{Histogram}
use Rattle.metric_events.specs.DataPoint.{DataPoint, IsMerged}
use Rattle.metric_events.specs.Interval.{Interval, IsInterval}
use Rattle.metric_events.specs.NewPoints.{point_of_histogram}
use Rattle.metric_events.specs.PointFaults.{histogram_fault, given_buckets, bounds_of}
use Rattle.metric_events.specs.PointFaults.{is_total_large}
use Rattle.metric_events.specs.Rows.{fits, histogram_row, absent, sum_or_zero}
use Rattle.metric_events.specs.declared.limits.TheConstants.{MAX_POINTS, MAX_SUM}
use Rattle.metric_events.specs.declared.point.PointFault.{PointFault}
use Rattle.otlp_read.specs.Rules.{unless}
use Rattle.book_desk.specs.Words.{histogram_said, sum_if}
use Rattle.book_desk.specs.inner.WordsOf.{row_words}

given : (bs : List ℤ) (count : ℕ) (buckets : List ℕ) → length buckets ≡ length bs + 1
    → given_buckets bs count buckets ≡ buckets
given bs count [] e = absurd (omega (arith, e))
given [] count (b ∷ rest) e = refl
given (x ∷ bs) count (b ∷ rest) e = refl

total_back : (total : Option ℕ) → sum_if (1 - absent total) (sum_or_zero total) ≡ total
total_back None = refl
total_back (Some s) = refl

-- the sum is within its limit
small : (bs : List ℤ) (total : Option ℕ) (buckets : List ℕ)
    → fits (Histogram bs) (histogram_row total buckets) ≡ true → sum_or_zero total ≤ MAX_SUM
small bs total buckets h =
    let all = and_parts _ _ h in
    let w1 = and_parts (leb 1 MAX_POINTS) _ all.0 in
    let w2 = and_parts (leb (absent total) MAX_POINTS) _ w1.1 in
    let w3 = and_parts (leb (sum_or_zero total) MAX_SUM) _ w2.1 in
    leb-true (sum_or_zero total) MAX_SUM w3.0

not_large : (total : Option ℕ) → sum_or_zero total ≤ MAX_SUM → is_total_large total ≡ false
not_large total h = le-ltb MAX_SUM (sum_or_zero total) h

unfaulted : (bs : List ℤ) (span : Interval) (total : Option ℕ) (buckets : List ℕ) → IsInterval span
    → length buckets ≡ length bs + 1 → sum_or_zero total ≤ MAX_SUM
    → histogram_fault (Histogram bs) span.start span.end (sum buckets) total buckets ≡ None
unfaulted bs span total buckets is long few =
    rw (
      is.valid,
      given bs (sum buckets) buckets long,
      eq-eqb (length buckets) (length bs + 1) long,
      eq-eqb (sum buckets) (sum buckets) refl,
      not_large total few,
    ) refl

pub histogram_back : (p : DataPoint) (bs : List ℤ) (total : Option ℕ) (buckets : List ℕ)
    → p.series.kind ≡ Histogram bs → p.row ≡ histogram_row total buckets → IsMerged p
    → histogram_said p.series (p.span.start ∷ p.span.end ∷ row_words (Histogram bs) p.row)
    ≡ Some p
histogram_back p bs total buckets k e h =
    let within : fits (Histogram bs) (histogram_row total buckets) ≡ true =
    ap (λ (kind : Kind). fits kind (histogram_row total buckets)) (sym k)
    ∙ (ap (λ (row : List ℕ). fits p.series.kind row) (sym e) ∙ h.within) in
    let long : length buckets ≡ length bs + 1 =
    omega (arith, ap length e, h.long, ap row_length k) in
    let none : histogram_fault p.series.kind p.span.start p.span.end (sum buckets) total buckets
    ≡ None =
    ap (λ (kind : Kind). histogram_fault kind p.span.start p.span.end (sum buckets) total buckets) k
    ∙ unfaulted bs p.span total buckets h.span long (small bs total buckets within) in
    let whole : given_buckets (bounds_of p.series.kind) (sum buckets) buckets ≡ buckets =
    ap (λ (kind : Kind). given_buckets (bounds_of kind) (sum buckets) buckets) k
    ∙ given bs (sum buckets) buckets long in
    ap (λ (row : List ℕ). histogram_said p.series
    (p.span.start ∷ p.span.end ∷ row_words (Histogram bs) row)) e
    ∙ (ap (λ (o : Option ℕ). unless (histogram_fault p.series.kind p.span.start p.span.end
    (sum buckets) o buckets) (point_of_histogram p.series p.span.start p.span.end (sum buckets)
    o buckets)) (total_back total)
    ∙ (ap (λ (o : Option PointFault). unless o
    (point_of_histogram p.series p.span.start p.span.end (sum buckets) total buckets)) none
    ∙ (ap (λ (all : List ℕ). Some
    (record { series = p.series; span = p.span; row = histogram_row total all })) whole
    ∙ ap (λ (row : List ℕ). Some (record { series = p.series; span = p.span; row = row }))
    (sym e))))
