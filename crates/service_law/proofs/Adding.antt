-- What is counted of the points of a series.
use Rattle.std.proofs.Common.{◌≡◌, ◌≢◌, ℕ, ℤ, true, false, not, Option, Some, None, List, [], ◌∷◌}
use Rattle.std.proofs.Common.{◌++◌, length, ap, sym, ◌∙◌, arith}
use Rattle.std.specs.List.{AllByRecursion}
use Rattle.std.specs.Option.{option_to_list}
use Rattle.std.proofs.lemmas.Bool.{cond-true, cond-false, and_from, and_left, and_right}
use Rattle.std.proofs.lemmas.Bool.{not_from_true, not_from_false, eq-eqb, eqb-false, ne_eqb}
use Rattle.service_law.specs.Sums.{Reading, InTurn, zeros, plus, minus, sum_of_rows, time_of, total}
use Rattle.service_law.specs.Runs.{Options, IsReading, IsState, base, bases, bases_behind}
use Rattle.service_law.specs.Runs.{continues, counts_first, entries, goes_down, is_instant, kept}
use Rattle.service_law.specs.Runs.{lasts, noted, taken}
use Rattle.service_law.proofs.Rows.{plus_comm, plus_zeros, plus_swap, length_zeros, counted_with}
use Rattle.service_law.proofs.Rows.{went_up}
use Rattle.service_law.proofs.Steps.{steps, first_steps, counts_span}

pub same_long : {n : ℕ} (p q : Reading) → IsReading n p → IsReading n q
    → length p.words ≡ length q.words
same_long p q ip iq = ip.long ∙ sym iq.long

-- where p is of the run of q

of_run : (o : Options) (q p : Reading) → p.start ≡ q.start → goes_down o q.words p.words ≡ false
    → continues o q p ≡ true
of_run o q p same d = and_from _ _ (eq-eqb _ _ same) (not_from_false _ d)

last_of_run : (o : Options) (n : ℕ) (q p : Reading) (ts : List Reading) → continues o q p ≡ true
    → sum_of_rows n (lasts o (q ∷ p ∷ ts)) ≡ sum_of_rows n (lasts o (p ∷ ts))
last_of_run o n q p ts c = ap (sum_of_rows n) (cond-true (continues o q p) _ _ c)

bases_of_run : (o : Options) (n : ℕ) (q p : Reading) (ts : List Reading) → continues o q p ≡ true
    → sum_of_rows n (bases_behind n o q (p ∷ ts)) ≡ sum_of_rows n (bases_behind n o p ts)
bases_of_run o n q p ts c = ap (sum_of_rows n) (cond-true (continues o q p) _ _ c)

-- where p begins another

last_before : (o : Options) (n : ℕ) (q p : Reading) (ts : List Reading) → continues o q p ≡ false
    → sum_of_rows n (lasts o (q ∷ p ∷ ts)) ≡ plus q.words (sum_of_rows n (lasts o (p ∷ ts)))
last_before o n q p ts c = ap (sum_of_rows n) (cond-false (continues o q p) _ _ c)

bases_anew : (o : Options) (n : ℕ) (q p : Reading) (ts : List Reading) → continues o q p ≡ false
    → sum_of_rows n (bases_behind n o q (p ∷ ts))
    ≡ plus (base n (not (is_instant p)) p) (sum_of_rows n (bases_behind n o p ts))
bases_anew o n q p ts c = ap (sum_of_rows n) (cond-false (continues o q p) _ _ c)

abbrev GoesOn : Options → ℕ → Reading → List Reading → Type 0
GoesOn o n q ps =
    plus (total n (entries o (Some q) ps))
    (plus q.words (sum_of_rows n (bases_behind n o q (taken o (Some q) ps))))
    ≡ sum_of_rows n (lasts o (q ∷ taken o (Some q) ps))

one_more : (o : Options) (n : ℕ) (q p : Reading) (ps : List Reading) → IsReading n q → IsReading n p
    → GoesOn o n q ps → GoesOn o n p ps → GoesOn o n q (p ∷ ps)
one_more o n q p ps iq ip stays next =
    steps o q p (λ e. plus (total n (option_to_list e ++ entries o (kept e (Some q) p) ps))
    (plus q.words (sum_of_rows n (bases_behind n o q
    (noted e p (taken o (kept e (Some q) p) ps)))))
    ≡ sum_of_rows n (lasts o (q ∷ noted e p (taken o (kept e (Some q) p) ps))))
    (λ old. stays)
    (λ later same d. let c = of_run o q p same d in
    ap (λ row. plus (plus (minus p.words q.words) t) (plus q.words row)) (bases_of_run o n q p ts c)
    ∙ (went_up p.words q.words t b (same_long p q ip iq)
    ∙ (next ∙ sym (last_of_run o n q p ts c))))
    (λ later same d r. anew (and_right _ _ (not_from_true _ d))
    (ne_eqb _ _ (λ e. absurd (omega (arith, e, iq.span)))))
    (λ later same d r. stays)
    (λ later other behind i. let c : continues o q p ≡ false = and_left _ _ (ne_eqb _ _ other) in
    ap (λ row. plus t (plus q.words row))
    (bases_anew o n q p ts c
    ∙ ap (λ row. plus row b) (cond-false (not (is_instant p)) _ _ (not_from_true _ i)))
    ∙ (plus_swap t q.words (plus p.words b)
    ∙ (ap (plus q.words) next ∙ sym (last_before o n q p ts c))))
    (λ later other behind i. anew (and_left _ _ (ne_eqb _ _ other)) i)
    (λ later other before. stays)
  where
    t : List ℤ
    t = total n (entries o (Some p) ps)

    ts : List Reading
    ts = taken o (Some p) ps

    b : List ℤ
    b = sum_of_rows n (bases_behind n o p ts)

    anew : continues o q p ≡ false → is_instant p ≡ false
        → plus (plus p.words t) (plus q.words (sum_of_rows n (bases_behind n o q (p ∷ ts))))
        ≡ sum_of_rows n (lasts o (q ∷ p ∷ ts))
    anew c i =
        ap (λ row. plus (plus p.words t) (plus q.words row))
        (bases_anew o n q p ts c
        ∙ ap (λ row. plus row b) (cond-true (not (is_instant p)) _ _ (not_from_false _ i)))
        ∙ (plus_swap (plus p.words t) q.words (plus (zeros n) b)
        ∙ (ap (plus q.words) (counted_with n p.words t b ip.long ∙ next)
        ∙ sym (last_before o n q p ts c)))

pub goes_on_law : (o : Options) (n : ℕ) (q : Reading) (ps : List Reading) → IsReading n q
    → AllByRecursion (IsReading n) ps → GoesOn o n q ps
goes_on_law o n q [] iq a = plus_comm (zeros n) (plus q.words (zeros n))
    ∙ ap (λ row. plus row (zeros n)) (plus_zeros q.words n iq.long)
goes_on_law o n q (p ∷ ps) iq a =
    one_more o n q p ps iq a.0 (goes_on_law o n q ps iq a.1) (goes_on_law o n p ps a.0 a.1)

pub sums_law : (o : Options) (n : ℕ) (ps : List Reading) → AllByRecursion (IsReading n) ps
    → plus (total n (entries o None ps)) (sum_of_rows n (bases n o (taken o None ps)))
    ≡ sum_of_rows n (lasts o (taken o None ps))
sums_law o n [] a = plus_zeros (zeros n) n (length_zeros n)
sums_law o n (p ∷ ps) a =
    let next = goes_on_law o n p ps a.0 a.1 in
    let t = total n (entries o (Some p) ps) in
    let b = sum_of_rows n (bases_behind n o p (taken o (Some p) ps)) in
    first_steps o p (λ e. plus (total n (option_to_list e ++ entries o (kept e None p) ps))
    (sum_of_rows n (bases n o (noted e p (taken o (kept e None p) ps))))
    ≡ sum_of_rows n (lasts o (noted e p (taken o (kept e None p) ps))))
    (λ c. ap (λ row. plus (plus p.words t) (plus row b)) (cond-true (counts_first o p) _ _ c)
    ∙ (counted_with n p.words t b a.0.long ∙ next))
    (λ c. ap (λ row. plus t (plus row b)) (cond-false (counts_first o p) _ _ c) ∙ next)

pub in_turn_law : (o : Options) (n : ℕ) (s : Option Reading) (ps : List Reading) → IsState n s
    → AllByRecursion (IsReading n) ps → InTurn (time_of s) (entries o s ps)
in_turn_law o n None [] is a = tt
in_turn_law o n (Some q) [] is a = tt
in_turn_law o n None (p ∷ ps) is a =
    let next = in_turn_law o n (Some p) ps a.0 a.1 in
    first_steps o p (λ e. InTurn 0 (option_to_list e ++ entries o (kept e None p) ps))
    (λ c. let h = counts_span o p c in
    (record { late = omega arith; known = h.0; long = omega (arith, h.1, a.0.span) }, next))
    (λ c. (omega arith, next))
in_turn_law o n (Some q) (p ∷ ps) is a =
    let stays = in_turn_law o n (Some q) ps is a.1 in
    let next = in_turn_law o n (Some p) ps a.0 a.1 in
    steps o q p (λ e. InTurn q.time (option_to_list e ++ entries o (kept e (Some q) p) ps))
    (λ old. stays)
    (λ later same d. (record { late = omega arith; known = is.time; long = later }, next))
    (λ later same d r. (record { late = omega arith; known = is.time; long = later }, next))
    (λ later same d r. stays)
    (λ later other behind i. (omega arith, next))
    (λ later other behind i. let ne : p.start ≢ p.time = eqb-false _ _ i in (
      record {
        late = behind;
        known = omega (arith, behind, is.time);
        long =
            omega (arith, ne, a.0.span);
      },
      next,
    ))
    (λ later other before. stays)
