-- What has no fault of a histogram's point is a point.
use Rattle.std.proofs.Common.{◌≡◌, ℕ, ◌+◌, ◌<◌, ◌≤◌, ◌^◌, ◌==◌, true, false, List, [], ◌∷◌, refl}
use Rattle.std.proofs.Common.{arith, length, not, sum, Some, None}
use Rattle.std.specs.Prelude.{nat_le}
use Rattle.std.specs.declared.option.Option.{Option}
use Rattle.std.proofs.lemmas.Bool.{and_parts, and_from, eqb-true, le-leb, ltb-false}
use Rattle.std.proofs.lemmas.List.Sums.{sum_by-cons}
use Rattle.series_id.specs.Identity.{Identity, IsIdentity, row_length}
use Rattle.series_id.specs.declared.kinds.Kind.{Kind}
use Rattle.series_id.specs.declared.kinds.Kind.TheVariants.{Sum, Histogram}
use Rattle.series_id.proofs.Refusals.{not_false, passed}
use Rattle.metric_events.specs.Interval.{Interval, is_span}
use Rattle.metric_events.specs.DataPoint.{IsMerged}
use Rattle.metric_events.specs.PointFaults.{IsHistogram, are_buckets, bounds_of, given_buckets}
use Rattle.metric_events.specs.PointFaults.{histogram_fault, is_total_large}
use Rattle.metric_events.specs.Rows.{fits, keeps_sign, are_within, histogram_row}
use Rattle.metric_events.specs.declared.point.PointFault.TheVariants.{BadSpan, BucketMismatch}
use Rattle.metric_events.specs.declared.point.PointFault.TheVariants.{TooLarge}
use Rattle.metric_events.specs.declared.limits.TheConstants.{MAX_SUM, MAX_BUCKET, MAX_COUNT}

-- each word is at most what all are together
each_within : (most : ℕ) (words : List ℕ) → sum words ≤ most → are_within (λ k. most) words ≡ true
each_within most [] h = refl
each_within most (w ∷ words) h =
    and_from (nat_le w most) (are_within (λ k. most) words)
    (le-leb w most (omega (arith, h, sum_by-cons (λ n. n) w words)))
    (each_within most words (omega (arith, h, sum_by-cons (λ n. n) w words)))

-- with a sum within its limit, buckets that are a count of 64 bits together fit
pub histogram_fits : (bounds : _) (total : Option ℕ) (buckets : List ℕ)
    → is_total_large total ≡ false → sum buckets ≤ MAX_COUNT
    → fits (Histogram bounds) (histogram_row total buckets) ≡ true
histogram_fits bounds None buckets small few =
    rw (each_within MAX_BUCKET buckets few, le-leb (sum buckets) MAX_COUNT few) refl
histogram_fits bounds (Some n) buckets small few =
    rw (
      each_within MAX_BUCKET buckets few,
      le-leb (sum buckets) MAX_COUNT few,
      le-leb n MAX_SUM
          (ltb-false MAX_SUM n small),
    ) refl

row_made : (kind : Kind) (count : ℕ) (total : Option ℕ) (buckets : List ℕ) → IsHistogram kind
    → count < 2 ^ 64 → is_total_large total ≡ false
    → are_buckets (bounds_of kind) count buckets ≡ true
    → (length (histogram_row total buckets) ≡ row_length kind)
    × ((fits kind (histogram_row total buckets) ≡ true)
    × (keeps_sign kind (histogram_row total buckets) ≡ true))
row_made (Sum monotonic) count total buckets h narrow small f = absurd h
row_made (Histogram bounds) count total buckets h narrow small f =
    let parts = and_parts (length buckets == length bounds + 1) (sum buckets == count) f in (
      omega (arith, eqb-true (length buckets) (length bounds + 1) parts.0),
      (
        histogram_fits bounds total buckets small
            (omega (arith, narrow, eqb-true (sum buckets) count parts.1)),
        refl,
      ),
    )

point_made : (x : Identity) (start end count : ℕ) (total : Option ℕ) (given : List ℕ) → IsIdentity x
    → IsHistogram x.kind → end < 2 ^ 64 → count < 2 ^ 64
    → histogram_fault x.kind start end count total given ≡ None
    → IsMerged (record {
      series = x;
      span = record { start = start; end = end };
      row =
          histogram_row total (given_buckets (bounds_of x.kind) count given);
    })
point_made x start end count total given named of_histogram ends narrow none =
    let buckets = given_buckets (bounds_of x.kind) count given in
    let a = passed (not (is_span start end)) BadSpan _ none in
    let b = passed (not (are_buckets (bounds_of x.kind) count buckets)) BucketMismatch _ a.1 in
    let c = passed (is_total_large total) TooLarge None b.1 in
    let row = row_made x.kind count total buckets of_histogram narrow c.0 (not_false _ b.0) in
    record {
      named = named;
      span = record { valid = not_false _ a.0; fits = ends };
      long = row.0;
      within = row.1.0;
      signed = row.1.1;
    }

-- of the parts, as they are found
pub histogram_made : (x : Identity) (kind : Kind) (start end count : ℕ) (total : Option ℕ)
    (given : List ℕ) (span : Interval) (row : List ℕ) → IsIdentity x → IsHistogram x.kind
    → end < 2 ^ 64 → count < 2 ^ 64
    → kind ≡ x.kind → histogram_fault kind start end count total given ≡ None
    → span ≡ record { start = start; end = end }
    → row ≡ histogram_row total (given_buckets (bounds_of kind) count given)
    → IsMerged (record { series = x; span = span; row = row })
histogram_made x kind start end count total given span row named of_histogram ends narrow is none s
    r =
    rw (s, r, is) (point_made x start end count total given named of_histogram ends narrow
    (let n : histogram_fault x.kind start end count total given ≡ None = rw is at none in n))
