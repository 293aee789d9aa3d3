-- Points that come again, or late, or never.
use Rattle.std.proofs.Common.{◌≡◌, ◌≢◌, ℕ, ◌<◌, ◌≤◌, ◌==◌, true, false, not, ◌&&◌, ◌||◌, Option}
use Rattle.std.proofs.Common.{Some, None, List, [], ◌∷◌, ◌++◌, refl, sym, ◌∙◌, subst, arith}
use Rattle.std.specs.Prelude.{nat_le, nat_lt}
use Rattle.std.specs.List.{AllByRecursion}
use Rattle.std.specs.Option.{option_to_list}
use Rattle.std.proofs.lemmas.Bool.{cond-true, le-leb, and_from, and_parts, both_ways, eqb-true}
use Rattle.std.proofs.lemmas.Bool.{ne_eqb, not_from_false}
use Rattle.service_law.specs.Sums.{Entry, Counted, More, Reading, zeros, minus, total}
use Rattle.service_law.specs.Runs.{Options, IsReading, IsState, ToldApart, entry, kept, after}
use Rattle.service_law.specs.Runs.{latest, counts_first, goes_down, is_instant, is_since}
use Rattle.service_law.proofs.Rows.{down_later, not_down_later, caught_up, went_on}
use Rattle.service_law.proofs.Steps.{steps, first_steps}
use Rattle.service_law.proofs.Adding.{same_long}

-- why p adds nothing where q is kept
pub data IsPast (o : Options) (q p : Reading) : Type 0 where
  Older : p.time ≤ q.time → IsPast o q p
  Early : p.start ≢ q.start → p.start < q.time → IsPast o q p
  Below : p.start ≡ q.start → goes_down o q.words p.words ≡ true
      → (o.resets || p.start == 0) ≡ false → IsPast o q p

abbrev IsPastOf : Options → Option Reading → Reading → Type 0
IsPastOf o None p = ⊥
IsPastOf o (Some q) p = IsPast o q p

past_entry : (o : Options) (q p : Reading) → IsPast o q p → entry o (Some q) p ≡ None
past_entry o q p (Older h) = cond-true _ _ _ (le-leb _ _ h)
past_entry o q p (Early ne lt) = steps o q p (λ e. e ≡ None) (λ old. refl)
    (λ later same d. absurd (ne same)) (λ later same d r. absurd (ne same)) (λ later same d r. refl)
    (λ later other behind i. absurd (omega arith))
    (λ later other behind i. absurd (omega arith)) (λ later other before. refl)
past_entry o q p (Below s dn off) =
    steps o q p (λ e. e ≡ None) (λ old. refl) (λ later same d. absurd (both_ways _ d dn))
    (λ later same d r. absurd (both_ways _ off r)) (λ later same d r. refl)
    (λ later other behind i. absurd (other s)) (λ later other behind i. absurd (other s))
    (λ later other before. refl)

-- a point that came is past
by_itself : (o : Options) (s : Option Reading) (p : Reading) → IsPastOf o (after o s p) p
by_itself o None p = first_steps o p (λ e. IsPastOf o (kept e None p) p) (λ c. Older (omega arith))
    (λ c. Older (omega arith))
by_itself o (Some q) p = steps o q p (λ e. IsPastOf o (kept e (Some q) p) p) (λ old. Older old)
    (λ later same d. Older (omega arith)) (λ later same d r. Older (omega arith))
    (λ later same d r. Below same d r) (λ later other behind i. Older (omega arith))
    (λ later other behind i. Older (omega arith)) (λ later other before. Early other before)

-- and stays so, whatever comes
by_next : (o : Options) (n : ℕ) (q x p : Reading) → IsReading n q → IsReading n x → IsPast o q p
    → IsPastOf o (after o (Some q) x) p
by_next o n q x p iq ix h = steps o q x (λ e. IsPastOf o (kept e (Some q) x) p) (λ old. h)
    (λ later same d. on h later same d) (λ later same d r. anew h later same r)
    (λ later same d r. h) (λ later other behind i. other_run h later other behind)
    (λ later other behind i. other_run h later other behind) (λ later other before. h)
  where
    on : IsPast o q p → q.time < x.time → x.start ≡ q.start → goes_down o q.words x.words ≡ false
        → IsPast o x p
    on (Older h) later same d = Older (omega arith)
    on (Early ne lt) later same d = Early (λ e. ne (e ∙ same)) (omega arith)
    on (Below s dn off) later same d =
        Below (s ∙ sym same)
        (down_later (not o.may_fall) q.words x.words p.words (same_long q x iq ix) d dn) off

    anew : IsPast o q p → q.time < x.time → x.start ≡ q.start → (o.resets || x.start == 0) ≡ true
        → IsPast o x p
    anew (Older h) later same r = Older (omega arith)
    anew (Early ne lt) later same r = Early (λ e. ne (e ∙ same)) (omega arith)
    anew (Below s dn off) later same r =
        absurd (both_ways _ off
        (subst (λ (start : ℕ). (o.resets || start == 0) ≡ true) (same ∙ sym s) r))

    other_run : IsPast o q p → q.time < x.time → x.start ≢ q.start → q.time ≤ x.start → IsPast o x p
    other_run (Older h) later other behind = Older (omega arith)
    other_run (Early ne lt) later other behind = Early (omega arith) (omega arith)
    other_run (Below s dn off) later other behind =
        Early (λ e. other (sym e ∙ s)) (omega (arith, s, iq.span))

pub kept_state : (n : ℕ) (e : Option Entry) (s : Option Reading) (p : Reading) → IsState n s
    → IsReading n p → IsState n (kept e s p)
kept_state n None s p is ip = is
kept_state n (Some e) s p is ip = ip

by_all : (o : Options) (n : ℕ) (s : Option Reading) (p : Reading) (xs : List Reading) → IsState n s
    → AllByRecursion (IsReading n) xs → IsPastOf o s p → IsPastOf o (latest o s xs) p
by_all o n s p [] is a h = h
by_all o n None p (x ∷ xs) is a h = absurd h
by_all o n (Some q) p (x ∷ xs) is a h =
    by_all o n (after o (Some q) x) p xs (kept_state n (entry o (Some q) x) (Some q) x is a.0) a.1
    (by_next o n q x p is a.0 h)

none_of : (o : Options) (s : Option Reading) (p : Reading) → IsPastOf o s p → entry o s p ≡ None
none_of o None p h = absurd h
none_of o (Some q) p h = past_entry o q p h

again_from : (o : Options) (n : ℕ) (s : Option Reading) (ps qs : List Reading) (p : Reading)
    → IsState n s → AllByRecursion (IsReading n) (ps ++ p ∷ qs)
    → entry o (latest o s (ps ++ p ∷ qs)) p ≡ None
again_from o n s [] qs p is a =
    none_of o (latest o (after o s p) qs) p
    (by_all o n (after o s p) p qs (kept_state n (entry o s p) s p is a.0) a.1
    (by_itself o s p))
again_from o n s (x ∷ ps) qs p is a =
    again_from o n (after o s x) ps qs p (kept_state n (entry o s x) s x is a.0) a.1

pub again_law : (o : Options) (n : ℕ) (ps qs : List Reading) (p : Reading)
    → AllByRecursion (IsReading n) (ps ++ p ∷ qs) → entry o (latest o None (ps ++ p ∷ qs)) p ≡ None
again_law o n ps qs p a = again_from o n None ps qs p tt a

-- p and then q leave what q alone leaves, where these are the entries of p, of q behind it, and of
-- q alone
abbrev IsAlike : ℕ → Option Reading → Reading → Reading → Option Entry → Option Entry → Option Entry
    → Type 0
IsAlike n s p q first second alone =
    (kept second (kept first s p) q ≡ kept alone s q)
    × (total n (option_to_list first ++ (option_to_list second ++ []))
    ≡ total n (option_to_list alone ++ []))

more_is : (o : Options) (p q : Reading) → p.time < q.time → q.start ≡ p.start
    → goes_down o p.words q.words ≡ false
    → Some (More p.time q.time (minus q.words p.words)) ≡ entry o (Some p) q
more_is o p q lt same nd = steps o p q (λ e. Some (More p.time q.time (minus q.words p.words)) ≡ e)
    (λ old. absurd (omega arith)) (λ later _ d. refl) (λ later _ d r. absurd (both_ways _ nd d))
    (λ later _ d r. absurd (both_ways _ nd d)) (λ later other behind i. absurd (other same))
    (λ later other behind i. absurd (other same))
    (λ later other before. absurd (other same))

run_is : (o : Options) (r q : Reading) → r.time < q.time → q.start ≢ r.start → r.time ≤ q.start
    → q.start < q.time → Some (Counted q.start q.start q.time q.words) ≡ entry o (Some r) q
run_is o r q lt ne le long = steps o r q (λ e. Some (Counted q.start q.start q.time q.words) ≡ e)
    (λ old. absurd (omega arith)) (λ later same d. absurd (ne same))
    (λ later same d t. absurd (ne same)) (λ later same d t. absurd (ne same))
    (λ later other behind i. absurd (omega (arith, eqb-true _ _ i)))
    (λ later other behind i. refl) (λ later other before. absurd (omega arith))

-- a later first point of the same start counts too
counts_same : (o : Options) (p q : Reading) → p.start ≡ q.start → q.start < q.time
    → counts_first o p ≡ true → counts_first o q ≡ true
counts_same o p q same long c =
    let l = and_parts (nat_lt 0 p.start && nat_le o.forgotten p.start)
    (is_since o.first o.made p.start && not (is_instant p)) c in
    and_from
    _ _ (subst (λ (start : ℕ). (nat_lt 0 start && nat_le o.forgotten start) ≡ true) same l.0)
    (and_from _ _ (subst (λ (start : ℕ). is_since o.first o.made start ≡ true) same
    (and_parts (is_since o.first o.made p.start) (not (is_instant p)) l.1).0)
    (not_from_false _ (ne_eqb _ _ (λ e. absurd (omega (arith, e))))))

first_is : (o : Options) (q : Reading) → counts_first o q ≡ true
    → Some (Counted q.start q.start q.time q.words) ≡ entry o None q
first_is o q c = first_steps o q (λ e. Some (Counted q.start q.start q.time q.words) ≡ e)
    (λ _. refl) (λ d. absurd (both_ways _ d c))

pub lost_law : (o : Options) (n : ℕ) (s : Option Reading) (p q : Reading) → IsState n s
    → IsReading n p → IsReading n q → p.start ≡ q.start → p.time < q.time
    → goes_down o p.words q.words ≡ false → ToldApart o s p
    → IsAlike n s p q (entry o s p) (entry o (after o s p) q) (entry o s q)
lost_law o n None p q is ip iq same lt nd told =
    let second = more_is o p q lt (sym same) nd in
    first_steps o p (λ e. IsAlike n None p q e (entry o (kept e None p) q) (entry o None q))
    (λ c. subst (λ (e : Option Entry). IsAlike n None p q
    (Some (Counted p.start p.start p.time p.words)) e (entry o None q)) second
    (subst (λ (e : Option Entry). IsAlike n None p q (Some (Counted p.start p.start p.time p.words))
    (Some (More p.time q.time (minus q.words p.words))) e)
    (first_is o q (counts_same o p q same (omega (arith, same, ip.span)) c))
    (refl, caught_up p.words q.words (zeros n) (same_long q p iq ip))))
    (λ c. absurd (both_ways _ c told))
lost_law o n (Some r) p q is ip iq same lt nd told =
    let second = more_is o p q lt (sym same) nd in
    steps o r p (λ e. IsAlike n (Some r) p q e (entry o (kept e (Some r) p) q) (entry o (Some r) q))
    (λ old. (refl, refl))
    (λ later was d. subst (λ (e : Option Entry). IsAlike n (Some r) p q
    (Some (More r.time p.time (minus p.words r.words))) e (entry o (Some r) q)) second
    (subst (λ (e : Option Entry). IsAlike n (Some r) p q
    (Some (More r.time p.time (minus p.words r.words)))
    (Some (More p.time q.time (minus q.words p.words))) e)
    (more_is o r q (omega arith) (sym same ∙ was)
    (not_down_later (not o.may_fall) r.words p.words q.words (same_long r p is ip) d nd))
    (refl, went_on r.words p.words q.words (zeros n) (same_long q p iq ip) (same_long p r ip is))))
    (λ later was d t. absurd (both_ways _ told.1 (and_from _ _ d t)))
    (λ later was d t. (refl, refl))
    (λ later other behind i. absurd (both_ways _ told.0 i))
    (λ later other behind i. subst (λ (e : Option Entry). IsAlike n (Some r) p q
    (Some (Counted p.start p.start p.time p.words)) e (entry o (Some r) q)) second
    (subst (λ (e : Option Entry). IsAlike n (Some r) p q
    (Some (Counted p.start p.start p.time p.words))
    (Some (More p.time q.time (minus q.words p.words))) e)
    (run_is o r q (omega arith) (λ e. other (same ∙ e)) (omega (arith, same))
    (omega (arith, same, ip.span)))
    (refl, caught_up p.words q.words (zeros n) (same_long q p iq ip))))
    (λ later other before. (refl, refl))
