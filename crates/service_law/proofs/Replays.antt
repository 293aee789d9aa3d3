-- What is kept, from the journal's entries.
use Rattle.std.proofs.Common.{◌≡◌, ℕ, ℤ, ◌<◌, ◌≤◌, cond, nat_le, Option, Some, None, List, [], ◌∷◌}
use Rattle.std.proofs.Common.{◌++◌, refl, ap, sym, ◌∙◌, append_assoc, arith}
use Rattle.std.specs.List.{AllByRecursion}
use Rattle.std.specs.Option.{option_to_list}
use Rattle.std.proofs.lemmas.Bool.{cond-true, cond-false, le-leb, lt-leb}
use Rattle.service_law.specs.Sums.{Entry, Noted, Counted, More, Reading, entry_time, minus, plus}
use Rattle.service_law.specs.Sums.{time_of}
use Rattle.service_law.specs.Runs.{Options, IsReading, IsState, after, entry, entries, kept, latest}
use Rattle.service_law.specs.Runs.{moved, replayed}
use Rattle.service_law.proofs.Rows.{minus_plus}
use Rattle.service_law.proofs.Steps.{steps, first_steps}
use Rattle.service_law.proofs.Adding.{same_long}
use Rattle.service_law.proofs.Coming.{kept_state}

-- an entry that is later than what is kept
moves : (s : Option Reading) (e : Entry) (es : List Entry) → time_of s < entry_time e
    → replayed s (e ∷ es) ≡ replayed (moved s e) es
moves s e es l = ap (λ t. replayed t es) (cond-false _ _ _ (lt-leb _ _ l))

grown : {n : ℕ} (p q : Reading) → IsReading n p → IsReading n q → p.start ≡ q.start
    → moved (Some q) (More q.time p.time (minus p.words q.words)) ≡ Some p
grown p q ip iq same = ap Some (ap (λ start. read start (plus (minus p.words q.words) q.words))
    (sym same) ∙ ap (read p.start) (minus_plus p.words q.words (same_long p q ip iq)))
  where
    read : ℕ → List ℤ → Reading
    read start words = record { start = start; time = p.time; words = words }

from_here : (o : Options) (n : ℕ) (s : Option Reading) (ps : List Reading) → IsState n s
    → AllByRecursion (IsReading n) ps → replayed s (entries o s ps) ≡ latest o s ps
from_here o n s [] is a = refl
from_here o n None (p ∷ ps) is a =
    let next = from_here o n (Some p) ps a.0 a.1 in
    first_steps o p (λ e. replayed None (option_to_list e ++ entries o (kept e None p) ps)
    ≡ latest o (kept e None p) ps)
    (λ c. moves None (Counted p.start p.start p.time p.words) (entries o (Some p) ps) a.0.time
    ∙ next)
    (λ c. moves None (Noted p.start p.time p.words) (entries o (Some p) ps) a.0.time ∙ next)
from_here o n (Some q) (p ∷ ps) is a =
    let stays = from_here o n (Some q) ps is a.1 in
    let next = from_here o n (Some p) ps a.0 a.1 in
    let es = entries o (Some p) ps in
    steps o q p (λ e. replayed (Some q) (option_to_list e ++ entries o (kept e (Some q) p) ps)
    ≡ latest o (kept e (Some q) p) ps)
    (λ old. stays)
    (λ later same d. moves (Some q) (More q.time p.time (minus p.words q.words)) es later
    ∙ (ap (λ s. replayed s es) (grown p q a.0 is same) ∙ next))
    (λ later same d r. moves (Some q) (Counted p.start q.time p.time p.words) es later ∙ next)
    (λ later same d r. stays)
    (λ later other behind i. moves (Some q) (Noted p.start p.time p.words) es later ∙ next)
    (λ later other behind i. moves (Some q) (Counted p.start p.start p.time p.words) es later
    ∙ next)
    (λ later other before. stays)

-- time goes on

later_one : (o : Options) (s : Option Reading) (p : Reading) → time_of s ≤ time_of (after o s p)
later_one o None p = omega arith
later_one o (Some q) p = steps o q p (λ e. q.time ≤ time_of (kept e (Some q) p))
    (λ old. omega arith) (λ later same d. omega arith) (λ later same d r. omega arith)
    (λ later same d r. omega arith) (λ later other behind i. omega arith)
    (λ later other behind i. omega arith) (λ later other before. omega arith)

later_all : (o : Options) (s : Option Reading) (ps : List Reading)
    → time_of s ≤ time_of (latest o s ps)
later_all o s [] = omega arith
later_all o s (p ∷ ps) = omega (arith, later_one o s p, later_all o (after o s p) ps)

abbrev AreOld : Option Reading → List Entry → Type 0
AreOld s es = AllByRecursion (λ e. entry_time e ≤ time_of s) es

all_old : (o : Options) (s : Option Reading) (ps : List Reading)
    → AreOld (latest o s ps) (entries o s ps)
all_old o s [] = tt
all_old o None (p ∷ ps) =
    let next : (p.time ≤ time_of (latest o (Some p) ps))
    × AreOld (latest o (Some p) ps) (entries o (Some p) ps) =
    (later_all o (Some p) ps, all_old o (Some p) ps) in
    first_steps o p (λ e. AreOld (latest o (kept e None p) ps)
    (option_to_list e ++ entries o (kept e None p) ps)) (λ c. next) (λ c. next)
all_old o (Some q) (p ∷ ps) =
    let stays = all_old o (Some q) ps in
    let next : (p.time ≤ time_of (latest o (Some p) ps))
    × AreOld (latest o (Some p) ps) (entries o (Some p) ps) =
    (later_all o (Some p) ps, all_old o (Some p) ps) in
    steps o q p (λ e. AreOld (latest o (kept e (Some q) p) ps)
    (option_to_list e ++ entries o (kept e (Some q) p) ps)) (λ old. stays)
    (λ later same d. next) (λ later same d r. next) (λ later same d r. stays)
    (λ later other behind i. next) (λ later other behind i. next)
    (λ later other before. stays)

old_stays : (s : Option Reading) (es : List Entry) → AreOld s es → replayed s es ≡ s
old_stays s [] a = refl
old_stays s (e ∷ es) a =
    ap (λ t. replayed t es) (cond-true _ _ _ (le-leb _ _ a.0)) ∙ old_stays s es a.1

-- one list of points behind another

entries-append : (o : Options) (s : Option Reading) (ps qs : List Reading)
    → entries o s (ps ++ qs) ≡ entries o s ps ++ entries o (latest o s ps) qs
entries-append o s [] qs = refl
entries-append o s (p ∷ ps) qs = ap (λ es. option_to_list (entry o s p) ++ es)
    (entries-append o (after o s p) ps qs)
    ∙ sym (append_assoc (option_to_list (entry o s p)) (entries o (after o s p) ps)
    (entries o (latest o (after o s p) ps) qs))

latest-append : (o : Options) (s : Option Reading) (ps qs : List Reading)
    → latest o s (ps ++ qs) ≡ latest o (latest o s ps) qs
latest-append o s [] qs = refl
latest-append o s (p ∷ ps) qs = latest-append o (after o s p) ps qs

replayed-append : (s : Option Reading) (es fs : List Entry)
    → replayed s (es ++ fs) ≡ replayed (replayed s es) fs
replayed-append s [] fs = refl
replayed-append s (e ∷ es) fs =
    replayed-append (cond (nat_le (entry_time e) (time_of s)) s (moved s e)) es fs

latest_state : (o : Options) (n : ℕ) (s : Option Reading) (ps qs : List Reading) → IsState n s
    → AllByRecursion (IsReading n) (ps ++ qs)
    → IsState n (latest o s ps) × AllByRecursion (IsReading n) qs
latest_state o n s [] qs is a = (is, a)
latest_state o n s (p ∷ ps) qs is a =
    latest_state o n (after o s p) ps qs (kept_state n (entry o s p) s p is a.0) a.1

pub replayed_law : (o : Options) (n : ℕ) (s : Option Reading) (ps qs : List Reading) → IsState n s
    → AllByRecursion (IsReading n) (ps ++ qs)
    → replayed (latest o s ps) (entries o s (ps ++ qs)) ≡ latest o s (ps ++ qs)
replayed_law o n s ps qs is a =
    let h = latest_state o n s ps qs is a in
    let here = latest o s ps in
    ap (replayed here) (entries-append o s ps qs)
    ∙ (replayed-append here (entries o s ps) (entries o here qs)
    ∙ (ap (λ t. replayed t (entries o here qs))
    (old_stays here (entries o s ps) (all_old o s ps))
    ∙ (from_here o n here qs h.0 h.1 ∙ sym (latest-append o s ps qs))))
