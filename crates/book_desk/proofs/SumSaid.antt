-- The words of a sum's point say it.
use Rattle.std.proofs.Common.{◌≡◌, ℕ, ℤ, pos, negsuc, suc, ◌≤◌, Bool, true, false, List, [], ◌∷◌}
use Rattle.std.proofs.Common.{Option, Some, None, refl, sym, ap, ◌∙◌, arith, SFits}
use Rattle.std.specs.Prelude.{◌&&◌}
use Rattle.std.specs.Int.{w64, cast_signed, cast_unsigned}
use Rattle.std.proofs.lemmas.Bool.{leb-true, le-leb, and_parts}
use Rattle.std.proofs.lemmas.Int.{to_z-of_z}
use native.Mathlib.Numerals.{unary_clauses}
use Rattle.series_id.specs.declared.kinds.Kind.{Kind}
use Rattle.series_id.specs.declared.kinds.Kind.TheVariants.{Sum}
use Rattle.metric_events.specs.DataPoint.{DataPoint, IsMerged}
use Rattle.metric_events.specs.Interval.{Interval, IsInterval}
use Rattle.metric_events.specs.NewPoints.{point_of_sum}
use Rattle.metric_events.specs.PointFaults.{sum_fault, is_negative}
use Rattle.metric_events.specs.Rows.{fits, keeps_sign, sum_row}
use Rattle.metric_events.specs.declared.limits.TheConstants.{MAX_AMOUNT}
use Rattle.metric_events.specs.declared.point.PointFault.{PointFault}
use Rattle.otlp_read.specs.Rules.{unless}
use Rattle.book_desk.specs.Words.{sum_said}
use Rattle.book_desk.specs.inner.WordsOf.{value_of}

-- a number within the limit of sums
abbrev IsWord : ℤ → Type 0
IsWord (pos n) = n ≤ MAX_AMOUNT
IsWord (negsuc n) = suc n ≤ MAX_AMOUNT

three : (m : Bool) (a b c : ℕ) → fits (Sum m) (a ∷ b ∷ c ∷ []) ≡ true
    → (b ≤ MAX_AMOUNT) × (c ≤ MAX_AMOUNT)
three m a b c h =
    let first = and_parts _ _ h in let second = and_parts _ _ first.1 in
    let third = and_parts _ _ second.1 in
    (leb-true b MAX_AMOUNT second.0, leb-true c MAX_AMOUNT third.0)

word : (m : Bool) (z : ℤ) → fits (Sum m) (sum_row z) ≡ true → IsWord z
word m (pos n) h = let parts = three m 1 n 0 h in parts.0
word m (negsuc n) h = let parts = three m 1 0 (suc n) h in parts.1

word_fits : (z : ℤ) → IsWord z → SFits w64 z
word_fits (pos n) h = omega (arith, h)
word_fits (negsuc n) h = omega (arith, h)

value_back : (z : ℤ) → value_of (sum_row z) ≡ z
value_back (pos n) = simp unary_clauses refl
value_back (negsuc n) = rw (le-leb 1 (suc n) (omega arith)) (ap (λ (k : ℕ). negsuc k) (omega arith))

signed : (m : Bool) (z : ℤ) → keeps_sign (Sum m) (sum_row z) ≡ true → (is_negative z && m) ≡ false
signed m (pos n) h = refl
signed false (negsuc n) h = refl
signed true (negsuc n) h = absurd (omega (arith, leb-true (suc n) 0 h))

unfaulted : (m : Bool) (span : Interval) (z : ℤ) → IsInterval span → fits (Sum m) (sum_row z) ≡ true
    → keeps_sign (Sum m) (sum_row z) ≡ true → sum_fault (Sum m) span.start span.end z ≡ None
unfaulted m span z is within sign = rw (is.valid, signed m z sign, within) refl

pub sum_back : (p : DataPoint) (m : Bool) (z : ℤ) → p.series.kind ≡ Sum m → p.row ≡ sum_row z
    → IsMerged p → sum_said p.series
    (p.span.start ∷ p.span.end ∷ cast_unsigned w64 (value_of p.row) ∷ []) ≡ Some p
sum_back p m z k e h =
    let within : fits (Sum m) (sum_row z) ≡ true =
    ap (λ (kind : Kind). fits kind (sum_row z)) (sym k)
    ∙ (ap (λ (row : List ℕ). fits p.series.kind row) (sym e) ∙ h.within) in
    let sign : keeps_sign (Sum m) (sum_row z) ≡ true =
    ap (λ (kind : Kind). keeps_sign kind (sum_row z)) (sym k)
    ∙ (ap (λ (row : List ℕ). keeps_sign p.series.kind row) (sym e) ∙ h.signed) in
    let value : cast_signed w64 (cast_unsigned w64 (value_of p.row)) ≡ z =
    ap (λ (row : List ℕ). cast_signed w64 (cast_unsigned w64 (value_of row))) e
    ∙ (ap (λ (y : ℤ). cast_signed w64 (cast_unsigned w64 y)) (value_back z)
    ∙ to_z-of_z w64 z (word_fits z (word m z within))) in
    let none : sum_fault p.series.kind p.span.start p.span.end z ≡ None =
    ap (λ (kind : Kind). sum_fault kind p.span.start p.span.end z) k
    ∙ unfaulted m p.span z h.span within sign in
    ap (λ (y : ℤ). unless (sum_fault p.series.kind p.span.start p.span.end y)
    (point_of_sum p.series p.span.start p.span.end y)) value
    ∙ (ap (λ (o : Option PointFault). unless o (point_of_sum p.series p.span.start p.span.end z))
    none
    ∙ ap (λ (row : List ℕ). Some (record { series = p.series; span = p.span; row = row })) (sym e))
