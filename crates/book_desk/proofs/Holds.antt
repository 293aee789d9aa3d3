-- What was quarantined can be released.
use Rattle.std.proofs.Common.{◌≡◌, ◌∙◌, ℕ, Option, Some, None, List, [], ◌∷◌, ◌++◌, ◌||◌, OnOk}
use Rattle.std.proofs.Common.{Result, Ok, Err, unwrap_or, refl, inl, inr, ap, sym, subst, Bool}
use Rattle.std.proofs.Common.{true, false, if◌then◌else◌, ◌<◌, ◌-◌, length, get_or, set, take, drop}
use Rattle.std.proofs.Common.{arith}
use Rattle.std.proofs.lemmas.Bool.{or_right}
use Rattle.std.proofs.lemmas.Slice.Eq.{bytes_eq-Decides}
use Rattle.metric_events.specs.History.{History}
use Rattle.metric_events.specs.Legal.{is_held}
use Rattle.metric_events.specs.Running.{held_senders}
use Rattle.metric_events.specs.Senders.{same_sender}
use Rattle.metric_events.specs.declared.event.Event.TheVariants as event
use Rattle.delta_book.specs.Journal.{Journal, history, Appends}
use Rattle.delta_book.specs.Refusals.{lift_refusal, quarantine_refusal}
use Rattle.delta_book.specs.declared.faults.QuarantineFault.TheVariants.{NoMemory}
use borrow.Rule.Slice.PartMut.{put_mid}
use Rattle.book_desk.proofs.Firsts.{rest_after, put_rest}
use Rattle.book_desk.specs.Holds.{HoldFails, hold_refusal, first_hold, is_held_in}
use Rattle.delta_book.specs.declared.faults.NotQuarantined.{NotQuarantined}
use Rattle.delta_book.specs.declared.faults.QuarantineFault.{QuarantineFault}
use Rattle.delta_book.proofs.Journaled.{grows}
use Rattle.book_desk.specs.Holds.{Holds, RestsFrom, IsReleased, Releases}

itself : (s : List ℕ) → same_sender s s ≡ true
itself s = (bytes_eq-Decides s s).1 refl

held_last : (s : List ℕ) (ts : List (List ℕ)) → is_held s (ts ++ s ∷ []) ≡ true
held_last s [] = ap (λ (b : Bool). b || false) (itself s)
held_last s (t ∷ ts) = or_right (same_sender t s) (is_held s (ts ++ s ∷ [])) (held_last s ts)

-- a sender that was quarantined can be released
pub can_lift : (old new : Journal) (s : List ℕ) → Appends old new 0 (event.Quarantine s)
    → lift_refusal (history new) s ≡ None
can_lift old new s a =
    subst (λ (E : History). lift_refusal E s ≡ None) (sym (grows old new 0 (event.Quarantine s) a))
    (ap (λ (b : Bool). if b then None else Some (record {}))
    (held_last s (held_senders (history old))))

-- it was quarantined, and is released
pub lifted : (s : List ℕ) (old mid now new : Journal) → now ≡ mid → Holds s old mid
    → IsReleased s now new → RestsFrom s old new
lifted s old mid now new e h r =
    inr (record { two = cc; struck = r.struck })

-- the same of a call's result, with a copy of the name
pub can_lift_ok : (old new : Journal) (s t : List ℕ) (r : Result (Unit {0}) QuarantineFault) → t ≡ s
    → OnOk r (Appends old new 0 (event.Quarantine t)) → OnOk r (lift_refusal (history new) s ≡ None)
can_lift_ok old new s t (Ok u) e a =
    can_lift old new s (subst (λ (n : List ℕ). Appends old new 0 (event.Quarantine n)) e a)
can_lift_ok old new s t (Err f) e a = tt

-- the first book's refusal and that of the rest
pub hold_taken : (os : List Journal) (s : List ℕ) (b d : Journal) → 0 < length os
    → quarantine_refusal (history (get_or os 0 d)) s ≡ None
    → hold_refusal os s ≡ hold_refusal (take (length (set os 0 b) - 1) (drop 1 (set os 0 b))) s
unfolding hold_refusal
hold_taken [] s b d l h = absurd (omega arith)
hold_taken (o ∷ os) s b d l h =
    subst (λ (xs : List Journal). first_hold (quarantine_refusal (history o) s) (hold_refusal os s)
    ≡ hold_refusal xs s) (sym (rest_after os o b))
    (ap (λ (r : Option QuarantineFault). first_hold r (hold_refusal os s)) h)

pub hold_refused : (os : List Journal) (s : List ℕ) (d : Journal) (e : QuarantineFault)
    → 0 < length os → HoldFails e (quarantine_refusal (history (get_or os 0 d)) s)
    → HoldFails e (hold_refusal os s)
unfolding hold_refusal
hold_refused [] s d e l h = absurd (omega arith)
hold_refused (o ∷ os) s d e l (inl h) = inl h
hold_refused (o ∷ os) s d e l (inr h) =
    inr (ap (λ (r : Option QuarantineFault). first_hold r (hold_refusal os s)) h)

pub hold_none : (os : List Journal) (s : List ℕ) → length os ≡ 0 → hold_refusal os s ≡ None
unfolding hold_refusal
hold_none [] s l = refl
hold_none (o ∷ os) s l = absurd (omega arith)

-- what one book says
pub hold_fails : (e : QuarantineFault) (r : Option QuarantineFault) → e ≡ unwrap_or r NoMemory
    → HoldFails e r
hold_fails e None h = inl h
hold_fails e (Some f) h = inr (ap Some (sym h))

-- whether one of the books has the sender
pub held_more : (os : List Journal) (s : List ℕ) (b d : Journal) (u v : Bool) → 0 < length os
    → u ≡ is_held s (held_senders (history (get_or os 0 d)))
    → v ≡ is_held_in (take (length (set os 0 b) - 1) (drop 1 (set os 0 b))) s
    → (u || v) ≡ is_held_in os s
unfolding is_held_in
held_more [] s b d u v l h i = absurd (omega arith)
held_more (o ∷ os) s b d u v l h i =
    subst (λ (w : Bool). (u || w) ≡ is_held_in (o ∷ os) s)
    (sym (i ∙ ap (λ (xs : List Journal). is_held_in xs s) (rest_after os o b)))
    (ap (λ (w : Bool). w || is_held_in os s) h)

pub held_none : (os : List Journal) (s : List ℕ) → length os ≡ 0 → false ≡ is_held_in os s
unfolding is_held_in
held_none [] s l = refl
held_none (o ∷ os) s l = absurd (omega arith)

pub or_first : (a b : Bool) → (a || b) ≡ false → a ≡ false
or_first true b h = absurd (cc)
or_first false b h = refl

pub or_second : (a b : Bool) → (a || b) ≡ false → b ≡ false
or_second true b h = absurd (cc)
or_second false b h = h

-- a sender that is not quarantined is not released
same_book : (u : Bool) (s : List ℕ) (old new : Journal) → u ≡ false
    → u ≡ is_held s (held_senders (history old)) → Releases s old new → new ≡ old
same_book u s old new e h (inl r) = r.1
same_book u s old new e h (inr r) =
    absurd (held_not (is_held s (held_senders (history old))) (sym h ∙ e) r.none)
  where
    held_not : (b : Bool) → b ≡ false
        → if◌then◌else◌ {A = Option NotQuarantined} b None (Some (record {})) ≡ None → ⊥
    held_not true f n = cc
    held_not false f n = cc

pub not_lifted : (os ys : List Journal) (b d : Journal) (u : Bool) (s : List ℕ) → 0 < length os
    → u ≡ false → u ≡ is_held s (held_senders (history (get_or os 0 d)))
    → Releases s (get_or os 0 d) b → ys ≡ take (length (set os 0 b) - 1) (drop 1 (set os 0 b))
    → put_mid 1 (length (set os 0 b) - 1) (set os 0 b) ys ≡ os
not_lifted [] ys b d u s l e h r q = absurd (omega arith)
not_lifted (o ∷ os) ys b d u s l e h r q =
    put_rest os ys o b ∙ (ap (λ (x : Journal). x ∷ ys) (same_book u s o b e h r)
    ∙ ap (λ (xs : List Journal). o ∷ xs) (q ∙ rest_after os o b))
