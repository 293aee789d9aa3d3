-- Reading points of sums that were written.
use Rattle.std.proofs.Common.{◌≡◌, ℕ, ℤ, pos, negsuc, suc, zero, ◌-◌, ◌<◌, ◌≤◌, ◌^◌, Bool, true}
use Rattle.std.proofs.Common.{false, leb, ltb, cond, ◌&&◌, List, [], ◌∷◌, length, map, Some, None}
use Rattle.std.proofs.Common.{refl, sym, ap, ◌∙◌, arith}
use Rattle.std.specs.Prelude.{codes, ◌-ℤ◌, slice_index}
use Rattle.std.specs.Result.{result_ok}
use Rattle.std.proofs.lemmas.Bool.{le-leb, ltb-true, leb-true, and_parts}
use Rattle.serde_json.specs.Data.{array}
use Rattle.serde_json.specs.View.{items_of}
use Rattle.series_id.specs.declared.kinds.Kind.{Kind}
use Rattle.series_id.specs.declared.kinds.Kind.TheVariants.{Sum}
use Rattle.series_id.specs.Identity.{Identity, IsIdentity, row_length}
use Rattle.series_id.specs.Values.{IsInt}
use Rattle.series_id.specs.Checks.{checked_identity}
use Rattle.series_id.proofs.Again.{identity_again}
use Rattle.metric_events.specs.declared.limits.TheConstants.{MAX_AMOUNT}
use Rattle.metric_events.specs.DataPoint.{DataPoint, IsMerged}
use Rattle.metric_events.specs.Interval.{Interval, IsInterval}
use Rattle.metric_events.specs.Rows.{fits, keeps_sign, sum_row}
use Rattle.metric_events.specs.PointFaults.{sum_fault, is_negative}
use Rattle.otlp_read.specs.Fields.{field, flags_fit, nanos_in}
use Rattle.otlp_read.specs.Streams.{Scope, Stream, identity_in, series_in, series_of}
use Rattle.otlp_read.specs.Sums.{number_in, is_whole_value, sum_fields, sum_point}
use Rattle.out_texts.specs.Attributes.{attributes_value, attribute_value}
use Rattle.out_texts.specs.Points.{sum_of, sum_point_value}
use Rattle.out_texts.specs.Back.{point_read, row_read}
use Rattle.out_texts.proofs.AttributesAgain.{attributes_again}
use Rattle.out_texts.proofs.NumbersAgain.{unsigned_again, signed_again}

-- resource, scope and metric of a series
abbrev pub scope_of : Identity → Scope
scope_of x = record {
  resource = x.resource;
  name = x.scope_name;
  version =
      x.scope_version;
  attributes = x.scope_attrs;
}

abbrev pub stream_of : Identity → Stream
stream_of x = record { scope = scope_of x; name = x.name; unit = x.unit }

pub series_again : (x : Identity) (k : Kind) → IsIdentity x → x.kind ≡ k
    → series_in (stream_of x) k x.attrs ≡ Some x
unfolding series_in
series_again x k h e = ap (λ (kind : Kind). result_ok
    (checked_identity (identity_in (stream_of x) kind x.attrs))) (sym e)
    ∙ ap result_ok (identity_again x h)

-- ---- numbers

-- a number whose size is a word
abbrev IsWord : ℤ → Type 0
IsWord (pos n) = n ≤ MAX_AMOUNT
IsWord (negsuc n) = suc n ≤ MAX_AMOUNT

word_if : (b : Bool) (m n : ℕ) → suc m ≤ MAX_AMOUNT → n ≤ MAX_AMOUNT
    → IsWord (cond b (negsuc m) (pos n))
word_if true m n h k = h
word_if false m n h k = k

difference : (a b : ℕ) → a ≤ MAX_AMOUNT → b ≤ MAX_AMOUNT → IsWord (pos a -ℤ pos b)
difference a zero ha hb = omega (arith, ha)
difference a (suc b) ha hb =
    word_if (ltb a (suc b)) (suc b - suc a) (a - suc b) (omega (arith, hb)) (omega (arith, ha))

word_is_int : (z : ℤ) → IsWord z → IsInt z
word_is_int (pos n) h = omega (arith, h)
word_is_int (negsuc n) h = omega (arith, h)

words_fit : (m : Bool) (z : ℤ) → IsWord z → fits (Sum m) (sum_row z) ≡ true
words_fit m (pos n) h = rw (le-leb n MAX_AMOUNT h) refl
words_fit m (negsuc n) h = rw (le-leb (suc n) MAX_AMOUNT h) refl

three : (m : Bool) (row : List ℕ) → length row ≡ 3 → fits (Sum m) row ≡ true
    → (slice_index row 1 ≤ MAX_AMOUNT) × (slice_index row 2 ≤ MAX_AMOUNT)
three m [] e h = absurd (omega (arith, e))
three m (a ∷ []) e h = absurd (omega (arith, e))
three m (a ∷ b ∷ []) e h = absurd (omega (arith, e))
three m (a ∷ b ∷ c ∷ row) e h =
    let first = and_parts _ _ h in let second = and_parts _ _ first.1 in
    let third = and_parts _ _ second.1 in
    (leb-true b MAX_AMOUNT second.0, leb-true c MAX_AMOUNT third.0)

no_sign : (b : Bool) → (b && false) ≡ false
no_sign true = refl
no_sign false = refl

signed : (m : Bool) (row : List ℕ) → keeps_sign (Sum m) row ≡ true
    → (is_negative (sum_of row) && m) ≡ false
signed false row h = no_sign (is_negative (sum_of row))
signed true row h =
    let none : slice_index row 2 ≡ 0 = omega (arith, leb-true (slice_index row 2) 0 h) in
    ap (λ n. is_negative (pos (slice_index row 1) -ℤ pos n) && true) none

-- an interval starts before 2^64, since it ends there
pub start_fits : (span : Interval) → IsInterval span → span.start < 2 ^ 64
start_fits span h =
    let parts = and_parts (leb 1 span.start) (ltb span.start span.end) h.valid in
    omega (arith, ltb-true span.start span.end parts.1, h.fits)

-- ---- points of sums

sum_unfaulted : (m : Bool) (span : Interval) (row : List ℕ) → IsInterval span → length row ≡ 3
    → fits (Sum m) row ≡ true → keeps_sign (Sum m) row ≡ true
    → sum_fault (Sum m) span.start span.end (sum_of row) ≡ None
sum_unfaulted m span row is long within sign =
    let parts = three m row long within in
    rw (is.valid, signed m row sign, words_fit m (sum_of row) (difference _ _ parts.0 parts.1)) refl

sum_fields_again : (p : DataPoint) → p.span.start < 2 ^ 64 → p.span.end < 2 ^ 64
    → IsInt (sum_of p.row)
    → sum_fields (sum_point_value p)
    ≡ Some (record { start = p.span.start; end = p.span.end; value = sum_of p.row })
unfolding sum_fields nanos_in number_in is_whole_value field flags_fit attributes_value
sum_fields_again p start end value =
    rw (
      unsigned_again p.span.start start,
      unsigned_again p.span.end end,
      signed_again
          (sum_of p.row) value,
    ) refl

sum_attributes : (p : DataPoint) → field (codes "attributes") (sum_point_value p)
    ≡ Some (array (items_of (map attribute_value p.series.attrs)))
unfolding field attributes_value
sum_attributes p = refl

pub sum_again : (p : DataPoint) (m : Bool) → p.series.kind ≡ Sum m → IsMerged p
    → sum_point (record { stream = stream_of p.series; monotonic = m }) (sum_point_value p)
    ≡ Some (point_read p)
unfolding sum_point series_of
sum_again p m k h =
    let long : length p.row ≡ 3 = h.long ∙ ap row_length k in
    let within : fits (Sum m) p.row ≡ true =
    ap (λ (kind : Kind). fits kind p.row) (sym k) ∙ h.within in
    let sign : keeps_sign (Sum m) p.row ≡ true =
    ap (λ (kind : Kind). keeps_sign kind p.row) (sym k) ∙ h.signed in
    let parts = three m p.row long within in
    let value : IsInt (sum_of p.row) = word_is_int _ (difference _ _ parts.0 parts.1) in
    let unfaulted : sum_fault p.series.kind p.span.start p.span.end (sum_of p.row) ≡ None =
    ap (λ (kind : Kind). sum_fault kind p.span.start p.span.end (sum_of p.row)) k
    ∙ sum_unfaulted m p.span p.row h.span long within sign in
    let row : sum_row (sum_of p.row) ≡ row_read p.series.kind p.row =
    ap (λ (kind : Kind). row_read kind p.row) (sym k) in
    rw (
      sum_fields_again p (start_fits p.span h.span) h.span.fits value,
      sum_attributes p,
      attributes_again p.series.attrs h.named.attrs,
      series_again p.series (Sum m) h.named k,
      unfaulted,
    )
    (ap (λ r. Some (record { series = p.series; span = p.span; row = r })) row)
