-- What holds of the machine at each moment, if all rules are kept; and of its books.
use Rattle.std.proofs.Common.{◌≡◌, ℕ, ◌+◌, ◌-◌, ◌<◌, ◌≤◌, true, Option, Some, None, List, [], ◌∷◌}
use Rattle.std.proofs.Common.{◌++◌, length, take, drop, ap, sym, ◌∙◌, subst, append_assoc, inl, inr}
use Rattle.std.proofs.Common.{⊎_elim}
use Rattle.std.specs.List.{list_all, AllByRecursion}
use Rattle.std.proofs.lemmas.List.{take-append-drop, take-append-le, drop-append-le}
use Rattle.series_id.specs.Identity.{Identity}
use Rattle.metric_events.specs.Series.{sum_of}
use Rattle.metric_events.specs.Recovery.{are_in_turn}
use Rattle.metric_events.specs.Congruence.{AreInterleaved}
use Rattle.metric_events.specs.Recall.{posted}
use Rattle.metric_events.specs.declared.accepted.Accepted.{Accepted}
use Rattle.metric_events.specs.declared.batch.Batch.{Batch}
use Rattle.metric_events.proofs.Lists.{all_first}
use Rattle.metric_events.proofs.Recovering.{turn_first}
use Rattle.service_law.specs.Machine.{Checkpoint, Former, Run, World, group_of, book, sent}
use Rattle.service_law.specs.Counted.{IsOne, accepted, delivered}
use Rattle.service_law.proofs.Same.{same_itself, same_equal, same_on, same_both, posted-append}
use Rattle.service_law.proofs.Requests.{IsFit}
use Rattle.service_law.proofs.Once.{spanned}

-- posts that are kept, and those of all that are in no group
abbrev pub left_over : List Batch → ℕ → List Batch → List Batch
left_over kept first all = kept ++ drop first all

-- A checkpoint, where these points were sent and all are the posts so far. Up to where the journal
-- turned the posts are in
-- requests, in the group, or held; the held ones and those behind are pending
pub record IsCheckpoint (out : List Accepted) (all : List Batch) (pending : List Accepted)
    (c : Checkpoint) : Type 0 where
  pub reach : c.turn ≤ length all
  pub group : AreInterleaved (posted (take c.turn all)) (out ++ (c.group ++ posted c.held))
  pub rest : AreInterleaved (posted c.held ++ posted (drop c.turn all)) pending

abbrev pub IsUnderWay : List Accepted → List Batch → List Accepted → Option Checkpoint → Type 0
IsUnderWay out all pending None = Unit {0}
IsUnderWay out all pending (Some c) = IsCheckpoint out all pending c

-- the books know what was sent, and have what a start would give them
pub record IsRun (out : List Accepted) (kept : List Batch) (first : ℕ) (all : List Batch) (r : Run)
    : Type 0 where
  pub known : AreInterleaved out r.known
  pub pending : AreInterleaved (posted (left_over kept first all))
      (group_of r.checkpoint ++ r.pending)
  pub checkpoint : IsUnderWay out all r.pending r.checkpoint

abbrev pub IsRunning : World → Option Run → Type 0
IsRunning w None = Unit {0}
IsRunning w (Some r) =
    (w.loose ≡ 0) × IsRun (sent w.requests) w.kept w.first (w.journal ++ r.queue) r

-- the posts whose records are durable
abbrev pub firm : World → List Batch
firm w = take (length w.journal - w.loose) w.journal

pub record IsSound (w : World) : Type 0 where
  pub groups : AreInterleaved (posted (take w.first w.journal)) (sent w.requests ++ posted w.kept)
  pub bound : w.first + w.loose ≤ length w.journal
  pub turn : are_in_turn [] (posted (accepted w)) ≡ true
  pub spans : list_all spanned (posted (accepted w)) ≡ true
  pub told : AllByRecursion (λ p. IsOne p (firm w)) w.told
  pub running : IsRunning w w.run
  pub former : AllByRecursion (λ (f : Former). f.term < w.term) w.former
  pub fit : AllByRecursion IsFit w.requests
  pub sink : (x : Identity) → sum_of x w.sink ≡ sum_of x (delivered w.requests)

-- lists

pub one_left : {A : Type 0} (x : A) (xs ys : List A) → IsOne x xs → IsOne x (xs ++ ys)
one_left x [] ys i = absurd i
one_left x (z ∷ xs) ys i = ⊎_elim (λ e. inl e) (λ j. inr (one_left x xs ys j)) i

pub told_more : (told ps qs : List Batch) → AllByRecursion (λ p. IsOne p ps) told
    → AllByRecursion (λ p. IsOne p (ps ++ qs)) told
told_more [] ps qs a = tt
told_more (t ∷ told) ps qs a = (one_left t ps qs a.0, told_more told ps qs a.1)

pub told_both : (ts us ps : List Batch) → AllByRecursion (λ p. IsOne p ps) ts
    → AllByRecursion (λ p. IsOne p ps) us → AllByRecursion (λ p. IsOne p ps) (ts ++ us)
told_both [] us ps a b = b
told_both (t ∷ ts) us ps a b = (a.0, told_both ts us ps a.1 b)

pub told_in : (told ps : List Batch) (p : Batch) → AllByRecursion (λ p. IsOne p ps) told
    → IsOne p told → IsOne p ps
told_in [] ps p a i = absurd i
told_in (t ∷ told) ps p a i = ⊎_elim (λ (e : t ≡ p). subst (λ (q : Batch). IsOne q ps) e a.0)
    (λ j. told_in told ps p a.1 j) i

-- of posts in turn the first ones are
pub turn_of_first : (ps qs : List Batch) → are_in_turn [] (posted (ps ++ qs)) ≡ true
    → are_in_turn [] (posted ps) ≡ true
turn_of_first ps qs h =
    turn_first [] (posted ps) (posted qs) (ap (are_in_turn []) (sym (posted-append ps qs)) ∙ h)

pub spans_of_first : (ps qs : List Batch) → list_all spanned (posted (ps ++ qs)) ≡ true
    → list_all spanned (posted ps) ≡ true
spans_of_first ps qs h = all_first spanned (posted ps) (posted qs)
    (ap (list_all spanned) (sym (posted-append ps qs)) ∙ h)

-- all posts are sent or left over
pub split_all : (out : List Accepted) (kept : List Batch) (first : ℕ) (all : List Batch)
    → AreInterleaved (posted (take first all)) (out ++ posted kept)
    → AreInterleaved (posted all) (out ++ posted (left_over kept first all))
split_all out kept first all h =
    same_on (same_equal (ap posted (sym (take-append-drop first all))
    ∙ posted-append (take first all) (drop first all)))
    (same_on (same_both h (same_itself (posted (drop first all))))
    (same_equal (append_assoc out (posted kept) (posted (drop first all))
    ∙ ap (λ us. out ++ us) (sym (posted-append kept (drop first all))))))

pub groups_in : (w : World) (qs : List Batch) → w.first ≤ length w.journal
    → AreInterleaved (posted (take w.first w.journal)) (sent w.requests ++ posted w.kept)
    → AreInterleaved (posted (take w.first (w.journal ++ qs)))
    (sent w.requests ++ posted w.kept)
groups_in w qs l h = subst (λ (ps : List Batch). AreInterleaved (posted ps)
    (sent w.requests ++ posted w.kept)) (sym (take-append-le w.first w.journal qs l)) h

-- and are what the books know
pub all_booked : (out : List Accepted) (kept : List Batch) (first : ℕ) (all : List Batch) (r : Run)
    → AreInterleaved (posted (take first all)) (out ++ posted kept) → IsRun out kept first all r
    → AreInterleaved (posted all) (book r)
all_booked out kept first all r h i =
    same_on (split_all out kept first all h) (same_both i.known i.pending)

-- one more post
pub left_more : (kept : List Batch) (first : ℕ) (all ps : List Batch) → first ≤ length all
    → posted (left_over kept first (all ++ ps)) ≡ posted (left_over kept first all) ++ posted ps
left_more kept first all ps l =
    ap (λ (qs : List Batch). posted (kept ++ qs)) (drop-append-le first all ps l)
    ∙ (ap posted (sym (append_assoc kept (drop first all) ps))
    ∙ posted-append (left_over kept first all) ps)
