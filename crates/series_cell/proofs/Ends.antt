-- The end of the last span, and the hull of all.
use Rattle.std.specs.List.Sorted.{IsPartitionPoint}
use Rattle.std.proofs.Common.{◌≡◌, ℕ, ◌+◌, ◌-◌, ◌≤◌, ◌==◌, true, false, List, [], ◌∷◌, get_or}
use Rattle.std.proofs.Common.{length, refl, ap, sym, ◌∙◌, arith, zero, suc, Some, None}
use Rattle.std.proofs.lemmas.Option.{none-some}
use Rattle.metric_events.specs.Interval.{Interval, joined, joined_to}
use Rattle.series_cell.specs.Spans.{end_of_spans, hull_of, joined_spans, ends_by, place_of}
use Rattle.series_cell.specs.Spans.{AreInOrder}
use Rattle.series_cell.specs.declared.batch_span.BatchSpan.{BatchSpan}

last_at : (before n : ℕ) (ms : List BatchSpan) (m : BatchSpan) → length ms ≡ suc n
    → m ≡ get_or ms n m → end_of_spans before ms ≡ m.span.end
last_at before zero (a ∷ []) m l e = ap (λ (w : BatchSpan). w.span.end) (sym e)
last_at before (suc n) (a ∷ ms) m l e = last_at a.span.end n ms m (omega (arith, l)) e
last_at before n ms m l e = absurd (omega (arith, l))

pub last_span : (before n : ℕ) (ms : List BatchSpan) (m : BatchSpan) → length ms ≡ n + 1
    → m ≡ get_or ms n m → end_of_spans before ms ≡ m.span.end
last_span before n ms m l e = last_at before n ms m (omega (arith, l)) e

pub some_yet : (n : ℕ) → (n == 0) ≡ false → n ≡ (n - 1) + 1
some_yet zero e = absurd (let q : true ≡ false = e in cc)
some_yet (suc n) e = omega arith

same_interval : (p q : Interval) → p.start ≡ q.start → p.end ≡ q.end → p ≡ q
same_interval p q s e =
    ap (λ n. record { start = n; end = p.end }) s ∙ ap (λ n. record { start = q.start; end = n }) e

-- in order of time the hull is that of the first and the last
hull_from : (n : ℕ) (m : BatchSpan) (ms : List BatchSpan) (d : BatchSpan) → length ms ≡ n
    → AreInOrder (m ∷ ms) → hull_of (m ∷ ms) ≡ Some (joined m.span (get_or (m ∷ ms) n d).span)
hull_from zero m [] d l o =
    ap Some (same_interval m.span (joined m.span m.span) (omega arith) (omega arith))
hull_from (suc n) m (k ∷ ms) d l o =
    let last = (get_or (k ∷ ms) n d).span in
    let first : m.span.start ≤ k.span.start = o.starts 0 1 d (omega arith) (omega arith) in
    let late : k.span.end ≤ last.end = o.ends 1 (suc n) d (omega arith) (omega arith) in
    ap (λ h. Some (joined_to m.span h))
    (hull_from n k ms d (omega arith)
    (record {
      starts = λ i j e b c. o.starts (suc i) (suc j) e (omega arith) (omega arith);
      ends = λ i j e b c. o.ends (suc i) (suc j) e (omega arith) (omega arith);
    }))
    ∙ ap Some (same_interval (joined m.span (joined k.span last)) (joined m.span last)
    (omega (arith, first)) (omega (arith, late)))
hull_from n m ms d l o = absurd (omega (arith, l))

pub hull_is : (n : ℕ) (ms : List BatchSpan) (c d : BatchSpan) → length ms ≡ n + 1 → AreInOrder ms
    → hull_of ms ≡ Some (joined (get_or ms 0 c).span (get_or ms n d).span)
hull_is n [] c d l o = absurd (omega (arith, l))
hull_is n (m ∷ ms) c d l o = hull_from n m ms d (omega (arith, l)) o

-- no hull, no spans
pub not_joined : (ms : List BatchSpan) → hull_of ms ≡ None → ms ≡ joined_spans (hull_of ms)
not_joined [] e = refl
not_joined (m ∷ ms) e = absurd (none-some _ (sym e))

-- the place before which all spans end by a moment, and none from it on
pub place_is : (start : ℕ) (ms : List BatchSpan) (n : ℕ) → n ≤ length ms
    → IsPartitionPoint (λ m. ends_by start m ≡ true) (λ m. ends_by start m ≡ false) ms n
    → n ≡ place_of start ms
place_is start [] n l h = omega arith
place_is start (m ∷ ms) zero l h = let first : ends_by start m ≡ false =
    h.1 0 m (omega arith) (omega arith) in rw first refl
place_is start (m ∷ ms) (suc n) l h =
    let first : ends_by start m ≡ true = h.0 0 m (omega arith) (omega arith) in
    let rest = place_is start ms n (omega arith) (
      (λ k d low high. h.0 (suc k) d (omega arith) (omega arith)),
      (λ k d low high. h.1 (suc k) d (omega arith) (omega arith)),
    ) in
    rw first (omega (arith, rest))
