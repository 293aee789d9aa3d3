-- Of two histories that stand alike neither may go on as the other may not, where there is room and
-- no limit is passed.
use Rattle.std.proofs.Common.{◌≡◌, ℕ, ◌==◌, Bool, true, false, cond, List, [], ◌∷◌, ◌++◌, map, refl}
use Rattle.std.proofs.Common.{ap, sym, ◌∙◌, inl, inr, subst}
use Rattle.std.proofs.lemmas.Bool.{or_cases, eqb-true, eq-eqb}
use Rattle.std.proofs.lemmas.List.{map-append}
use Rattle.metric_events.specs.History.{History, Opened, ◌▸◌, ◌then◌}
use Rattle.metric_events.specs.Legal.{IsLegal}
use Rattle.metric_events.specs.Lasting.{renumbered, renumbered_event, numbers, batch_number}
use Rattle.metric_events.specs.Lasting.{flush_number, is_one_of, KeepsApart}
use Rattle.metric_events.specs.Congruence.{StandAlike, IsCalm, AllSuit}
use Rattle.metric_events.specs.declared.event.Event.{Event}
use Rattle.metric_events.specs.declared.event.Event.TheVariants.{Admit, Undo, Confirm, Take, Settle}
use Rattle.metric_events.specs.declared.event.Event.TheVariants.{Drop, GiveBack}
use Rattle.metric_events.proofs.Lists.{any_append_left, any_append_right}
use Rattle.metric_events.proofs.Lasting.{apart_last, first_one}
use Rattle.metric_events.proofs.Congruence.{congruence_law, ends_calm}
use Rattle.metric_events.proofs.CongruentClose.{alike_back}

-- the number that was changed into this one

abbrev back : (ℕ → ℕ) → List ℕ → ℕ → ℕ
back to [] m = m
back to (n ∷ ns) m = cond (to n == m) n (back to ns m)

back_is : (to : ℕ → ℕ) (ns : List ℕ) → KeepsApart to ns → (n : ℕ) → is_one_of n ns ≡ true
    → back to ns (to n) ≡ n
back_is to [] k n h = absurd (let q : false ≡ true = h in cc)
back_is to (i ∷ ns) k n h = both (to i == to n) refl (back_is to ns (apart_last to (i ∷ []) ns k) n)
  where
    later : (to i == to n) ≡ false → is_one_of n ns ≡ true
    later e = elim (or_cases (i == n) (is_one_of n ns) h) [
      | inl m ↦ absurd
          (let q : true ≡ false = sym (eq-eqb (to i) (to n) (ap to (eqb-true i n m))) ∙ e in cc)
      | inr m ↦ m
    ]

    both : (v : Bool) → (to i == to n) ≡ v → (is_one_of n ns ≡ true → back to ns (to n) ≡ n)
        → cond (to i == to n) i (back to ns (to n)) ≡ n
    both true e r = ap (λ v. cond v i (back to ns (to n))) e
        ∙ k.all i n (first_one i ns) h (eqb-true (to i) (to n) e)
    both false e r = ap (λ v. cond v i (back to ns (to n))) e ∙ r (later e)

back_to : (to : ℕ → ℕ) (ns : List ℕ) (m : ℕ) → is_one_of m (map to ns) ≡ true
    → to (back to ns m) ≡ m
back_to to [] m h = absurd (let q : false ≡ true = h in cc)
back_to to (i ∷ ns) m h = both (to i == m) refl (back_to to ns m)
  where
    later : (to i == m) ≡ false → is_one_of m (map to ns) ≡ true
    later e = elim (or_cases (to i == m) (is_one_of m (map to ns)) h) [
      | inl g ↦ absurd (let q : true ≡ false = sym g ∙ e in cc)
      | inr g ↦ g
    ]

    both : (v : Bool) → (to i == m) ≡ v → (is_one_of m (map to ns) ≡ true → to (back to ns m) ≡ m)
        → to (cond (to i == m) i (back to ns m)) ≡ m
    both true e r = ap (λ v. to (cond v i (back to ns m))) e ∙ eqb-true (to i) m e
    both false e r = ap (λ v. to (cond v i (back to ns m))) e ∙ r (later e)

back_apart : (to : ℕ → ℕ) (ns ms : List ℕ) → ms ≡ map to ns → KeepsApart (back to ns) ms
back_apart to ns ms e = record {
  all = λ m n i j k. sym (back_to to ns m (ap (is_one_of m) (sym e) ∙ i))
      ∙ (ap to k ∙ back_to to ns n (ap (is_one_of n) (sym e) ∙ j));
}

-- the numbers of what was renumbered

one_batch : (batch flush : ℕ → ℕ) (e : Event)
    → batch_number (renumbered_event batch flush e) ≡ map batch (batch_number e)
one_batch batch flush (Admit b body) = refl
one_batch batch flush (Undo b) = refl
one_batch batch flush (Confirm b) = refl
one_batch batch flush e = refl

one_flush : (batch flush : ℕ → ℕ) (e : Event)
    → flush_number (renumbered_event batch flush e) ≡ map flush (flush_number e)
one_flush batch flush (Take f series) = refl
one_flush batch flush (Settle f) = refl
one_flush batch flush (Drop f) = refl
one_flush batch flush (GiveBack f) = refl
one_flush batch flush e = refl

batches_turned : (batch flush : ℕ → ℕ) (G : History)
    → numbers batch_number (renumbered batch flush G) ≡ map batch (numbers batch_number G)
batches_turned batch flush (Opened O) = refl
batches_turned batch flush (G ▸ e) =
    ap (λ ns. ns ++ numbers batch_number (renumbered batch flush G)) (one_batch batch flush e)
    ∙ (ap (λ ns. map batch (batch_number e) ++ ns) (batches_turned batch flush G)
    ∙ sym (map-append batch (batch_number e) (numbers batch_number G)))

flushes_turned : (batch flush : ℕ → ℕ) (G : History)
    → numbers flush_number (renumbered batch flush G) ≡ map flush (numbers flush_number G)
flushes_turned batch flush (Opened O) = refl
flushes_turned batch flush (G ▸ e) =
    ap (λ ns. ns ++ numbers flush_number (renumbered batch flush G)) (one_flush batch flush e)
    ∙ (ap (λ ns. map flush (flush_number e) ++ ns) (flushes_turned batch flush G)
    ∙ sym (map-append flush (flush_number e) (numbers flush_number G)))

-- what is renumbered and then renumbered back is as it was

-- these numbers are brought back
record Returns (to fro : ℕ → ℕ) (ns : List ℕ) : Type 0 where
  all : (n : ℕ) → is_one_of n ns ≡ true → fro (to n) ≡ n

later_return : (to fro : ℕ → ℕ) (ms ns : List ℕ) → Returns to fro (ms ++ ns) → Returns to fro ns
later_return to fro ms ns r =
    record { all = λ n h. r.all n (any_append_right (λ m. m == n) ms ns h) }

event_back : (batch flush unbatch unflush : ℕ → ℕ) (e : Event)
    → Returns batch unbatch (batch_number e) → Returns flush unflush (flush_number e)
    → renumbered_event unbatch unflush (renumbered_event batch flush e) ≡ e
event_back batch flush unbatch unflush (Admit b body) r s =
    ap (λ c. Admit c body) (r.all b (first_one b []))
event_back batch flush unbatch unflush (Undo b) r s = ap Undo (r.all b (first_one b []))
event_back batch flush unbatch unflush (Confirm b) r s = ap Confirm (r.all b (first_one b []))
event_back batch flush unbatch unflush (Take f series) r s =
    ap (λ g. Take g series) (s.all f (first_one f []))
event_back batch flush unbatch unflush (Settle f) r s = ap Settle (s.all f (first_one f []))
event_back batch flush unbatch unflush (Drop f) r s = ap Drop (s.all f (first_one f []))
event_back batch flush unbatch unflush (GiveBack f) r s = ap GiveBack (s.all f (first_one f []))
event_back batch flush unbatch unflush e r s = refl

first_return : (to fro : ℕ → ℕ) (ms ns : List ℕ) → Returns to fro (ms ++ ns) → Returns to fro ms
first_return to fro ms ns r =
    record { all = λ n h. r.all n (any_append_left (λ m. m == n) ms ns h) }

history_back : (batch flush unbatch unflush : ℕ → ℕ) (G : History)
    → Returns batch unbatch (numbers batch_number G)
    → Returns flush unflush (numbers flush_number G)
    → renumbered unbatch unflush (renumbered batch flush G) ≡ G
history_back batch flush unbatch unflush (Opened O) r s = refl
history_back batch flush unbatch unflush (G ▸ e) r s =
    ap (λ H. H ▸ renumbered_event unbatch unflush (renumbered_event batch flush e))
    (history_back batch flush unbatch unflush G
    (later_return batch unbatch (batch_number e) (numbers batch_number G) r)
    (later_return flush unflush (flush_number e) (numbers flush_number G) s))
    ∙ ap (λ f. G ▸ f) (event_back batch flush unbatch unflush e
    (first_return batch unbatch (batch_number e) (numbers batch_number G) r)
    (first_return flush unflush (flush_number e) (numbers flush_number G) s))

-- both directions

pub both_ways_law : (E F G : History) (batch flush : ℕ → ℕ) → StandAlike E F → IsLegal E → IsLegal F
    → IsCalm E → IsCalm F → KeepsApart batch (numbers batch_number G)
    → KeepsApart flush (numbers flush_number G)
    → AllSuit E G × AllSuit F (renumbered batch flush G)
    → (IsLegal (E then G) → IsLegal (F then renumbered batch flush G))
    × (IsLegal (F then renumbered batch flush G) → IsLegal (E then G))
both_ways_law E F G batch flush h i j c d j1 k1 s = (
  λ l. (congruence_law E F G batch flush h c.live (ends_calm E G c.batches l) d j j1 k1 l s.1).0,
  λ m. subst (λ (H : History). IsLegal (E then H)) same
      (congruence_law F E (renumbered batch flush G) unbatch unflush (alike_back E F h) d.live
      (ends_calm F (renumbered batch flush G) d.batches m) c i
      (back_apart batch (numbers batch_number G) (numbers batch_number (renumbered batch flush G))
      (batches_turned batch flush G))
      (back_apart flush (numbers flush_number G) (numbers flush_number (renumbered batch flush G))
      (flushes_turned batch flush G))
      m (subst (λ (H : History). AllSuit E H) (sym same) s.0)).0,
)
  where
    unbatch : ℕ → ℕ
    unbatch = back batch (numbers batch_number G)

    unflush : ℕ → ℕ
    unflush = back flush (numbers flush_number G)

    same : renumbered unbatch unflush (renumbered batch flush G) ≡ G
    same = history_back batch flush unbatch unflush G
        (record { all = λ n e. back_is batch (numbers batch_number G) j1 n e })
        (record { all = λ n e. back_is flush (numbers flush_number G) k1 n e })
