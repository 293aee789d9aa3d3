-- Each event keeps the machine sound: kills, a loss of power, starts and takeovers, and what former
-- processes do.
use Rattle.std.proofs.Common.{◌≡◌, ℕ, zero, suc, ◌+◌, ◌-◌, ◌<◌, ◌==◌, true, not, Option, Some, None}
use Rattle.std.proofs.Common.{List, [], ◌∷◌, ◌++◌, length, take, drop, refl, ap, sym, ◌∙◌, subst}
use Rattle.std.proofs.Common.{append_assoc, arith}
use Rattle.std.specs.List.{list_all, filter, AllByRecursion}
use Rattle.std.proofs.lemmas.Bool.{cond-false, ne_eqb}
use Rattle.std.proofs.lemmas.List.{append-nil, take-append-drop, take-take, take_at, length-append}
use Rattle.std.proofs.lemmas.List.{length-take-le}
use Rattle.metric_events.specs.Legal.{is_held}
use Rattle.metric_events.specs.Recovery.{are_in_turn}
use Rattle.metric_events.specs.Congruence.{AreInterleaved}
use Rattle.metric_events.specs.Recall.{posted}
use Rattle.metric_events.specs.declared.accepted.Accepted.{Accepted}
use Rattle.metric_events.specs.declared.batch.Batch.{Batch}
use Rattle.metric_events.proofs.Recovering.{turn_last}
use Rattle.metric_events.proofs.Interleaving.{turn_interleaved}
use Rattle.service_law.specs.Machine.{Action, Deliver, Event, Do, Late, Kill, LosePower, Look}
use Rattle.service_law.specs.Machine.{Start, Former, Run, World, act, all_behind, does, does_late}
use Rattle.service_law.specs.Machine.{empty, free_posts, happens, held_posts, killed, late, readmit}
use Rattle.service_law.specs.Machine.{remembers, replay_order, seen_of, sent, started}
use Rattle.service_law.specs.Counted.{IsOne, all_rules, queue_of}
use Rattle.service_law.proofs.Same.{same_itself, same_equal, same_on, posted-append, posted-filter}
use Rattle.service_law.proofs.Same.{parted, turn_bare, readmitted_all}
use Rattle.service_law.proofs.Once.{spanned}
use Rattle.service_law.proofs.Sound.{IsRunning, IsSound, firm, groups_in, left_over, spans_of_first}
use Rattle.service_law.proofs.Sound.{split_all, told_more, turn_of_first}
use Rattle.service_law.proofs.Moving.{firm_all, sound_act, sound_deliver, sound_down}

pub sound_kill : (w : World) (n : ℕ) (o : Option Run) → IsSound (record w { run = o })
    → IsSound (killed n (record w { run = o }) o)
sound_kill w n None h = h
sound_kill w n (Some r) h = record {
  groups = groups_in w ts (omega (arith, h.bound)) h.groups;
  bound = omega (arith, h.bound, h.running.0, length-append w.journal ts);
  turn = ap (λ (ps : List Batch). are_in_turn [] (posted ps)) (append-nil (w.journal ++ ts))
      ∙ turn_of_first (w.journal ++ ts) (drop n r.queue)
      (ap (λ (ps : List Batch). are_in_turn [] (posted ps)) same ∙ h.turn);
  spans = ap (λ (ps : List Batch). list_all spanned (posted ps)) (append-nil (w.journal ++ ts))
      ∙ spans_of_first (w.journal ++ ts) (drop n r.queue)
      (ap (λ (ps : List Batch). list_all spanned (posted ps)) same ∙ h.spans);
  told = subst (λ (ps : List Batch). AllByRecursion (λ p. IsOne p ps) w.told)
      (firm_all w.journal w.loose h.running.0
      ∙ sym (take_at w.journal ts (length (w.journal ++ ts) - (w.loose + length ts))
      (omega (arith, h.running.0, length-append w.journal ts)))) h.told;
  running = tt;
  former = h.former;
  fit = h.fit;
  sink = h.sink;
}
  where
    ts : List Batch
    ts = take n r.queue

    same : (w.journal ++ ts) ++ drop n r.queue ≡ w.journal ++ r.queue
    same = append_assoc w.journal ts (drop n r.queue)
        ∙ ap (λ ps. w.journal ++ ps) (take-append-drop n r.queue)

pub sound_power : (w : World) → IsSound w
    → IsSound (record w { journal = firm w; loose = 0; run = None })
sound_power w h = record {
  groups = subst (λ (ps : List Batch). AreInterleaved (posted ps)
      (sent w.requests ++ posted w.kept))
      (sym (take-take w.first (length w.journal - w.loose) w.journal (omega (arith, h.bound))))
      h.groups;
  bound = omega (arith, h.bound, long);
  turn = ap (λ (ps : List Batch). are_in_turn [] (posted ps)) (append-nil (firm w))
      ∙ turn_of_first (firm w) rest (ap (λ (ps : List Batch). are_in_turn [] (posted ps)) whole
      ∙ turn_of_first w.journal (queue_of w.run) h.turn);
  spans = ap (λ (ps : List Batch). list_all spanned (posted ps)) (append-nil (firm w))
      ∙ spans_of_first (firm w) rest (ap (λ (ps : List Batch). list_all spanned (posted ps)) whole
      ∙ spans_of_first w.journal (queue_of w.run) h.spans);
  told = subst (λ (ps : List Batch). AllByRecursion (λ p. IsOne p ps) w.told)
      (sym (firm_all (firm w) 0 refl)) h.told;
  running = tt;
  former = h.former;
  fit = h.fit;
  sink = h.sink;
}
  where
    rest : List Batch
    rest = drop (length w.journal - w.loose) w.journal

    whole : firm w ++ rest ≡ w.journal
    whole = take-append-drop (length w.journal - w.loose) w.journal

    long : length (firm w) ≡ length w.journal - w.loose
    long = length-take-le (length w.journal - w.loose) w.journal (omega arith)

-- a start

terms_later : (fs : List Former) (n : ℕ) → AllByRecursion (λ (f : Former). f.term < n) fs
    → AllByRecursion (λ (f : Former). f.term < suc n) fs
terms_later [] n a = tt
terms_later (f ∷ fs) n a = (omega (arith, a.0), terms_later fs n a.1)

terms_both : (fs gs : List Former) (n : ℕ) → AllByRecursion (λ (f : Former). f.term < n) fs
    → AllByRecursion (λ (f : Former). f.term < n) gs
    → AllByRecursion (λ (f : Former). f.term < n) (fs ++ gs)
terms_both [] gs n a b = b
terms_both (f ∷ fs) gs n a b = (a.0, terms_both fs gs n a.1 b)

term_of : (t : ℕ) (o : Option Run) (n : ℕ) → t < n
    → AllByRecursion (λ (f : Former). f.term < n) (remembers t o)
term_of t None n l = tt
term_of t (Some r) n l = (l, tt)

-- the books get all posts that are left over, in whatever order of senders
replayed : (w : World) → IsSound (record w { run = None })
    → AreInterleaved (posted (left_over w.kept w.first (w.journal ++ [])))
    (readmit (sent w.requests) []
    (replay_order all_rules w.quarantined (left_over w.kept w.first w.journal)))
replayed w h =
    same_on (same_equal
    (ap (λ (ps : List Batch). posted (left_over w.kept w.first ps)) (append-nil w.journal)))
    (same_on ordered (same_equal (sym
    (readmitted_all (sent w.requests) [] order
    (subst (λ (us : List Accepted). are_in_turn us (posted order) ≡ true)
    (sym (append-nil (sent w.requests)))
    (turn_interleaved (sent w.requests) (posted left) (posted order) ordered
    in_turn))))))
  where
    left : List Batch
    left = left_over w.kept w.first w.journal

    order : List Batch
    order = free_posts w.quarantined left ++ held_posts w.quarantined left

    in_turn : are_in_turn (sent w.requests) (posted left) ≡ true
    in_turn = turn_last [] (sent w.requests) (posted left)
        (turn_interleaved [] (posted w.journal) (sent w.requests ++ posted left)
        (split_all (sent w.requests) w.kept w.first w.journal h.groups)
        (turn_of_first w.journal [] h.turn))

    ordered : AreInterleaved (posted left) (posted order)
    ordered = same_on (parted (λ s. is_held s w.quarantined) (posted left)
        (turn_bare (sent w.requests) (posted left) in_turn))
        (same_equal (sym (posted-append (free_posts w.quarantined left)
        (held_posts w.quarantined left)
        ∙ (ap (λ us. us ++ posted (held_posts w.quarantined left))
        (posted-filter (λ s. not (is_held s w.quarantined)) left)
        ∙ ap (λ us. filter (λ (a : Accepted). not (is_held a.sender w.quarantined))
        (posted left) ++ us)
        (posted-filter (λ s. is_held s w.quarantined) left)))))

pub sound_start : (w : World) → IsSound w → IsSound (started all_rules w)
sound_start w h = record {
  groups = h.groups;
  bound = omega (arith, h.bound);
  turn = down.turn;
  spans = down.spans;
  told = subst (λ (ps : List Batch). AllByRecursion (λ p. IsOne p ps) w.told)
      (take-append-drop (length w.journal - w.loose) w.journal ∙ sym (firm_all w.journal 0 refl))
      (told_more w.told (firm w) (drop (length w.journal - w.loose) w.journal) h.told);
  running = (
    refl,
    record {
      known = same_itself (sent w.requests);
      pending =
          replayed w down;
      checkpoint = tt;
    },
  );
  former = terms_both (remembers w.term w.run) w.former (suc w.term)
      (term_of w.term w.run (suc w.term) (omega arith)) (terms_later w.former w.term h.former);
  fit = h.fit;
  sink = h.sink;
}
  where
    down : IsSound (record w { run = None })
    down = sound_down w w.run h

-- former processes

sound_former : (w : World) (fs : List Former) → AllByRecursion (λ (f : Former). f.term < w.term) fs
    → IsSound w → IsSound (record w { former = fs })
sound_former w fs a h = record {
  groups = h.groups;
  bound = h.bound;
  turn = h.turn;
  spans = h.spans;
  told = h.told;
  running = runs w.run h.running;
  former = a;
  fit = h.fit;
  sink = h.sink;
}
  where
    runs : (o : Option Run) → IsRunning w o → IsRunning (record w { former = fs }) o
    runs None i = tt
    runs (Some r) i = i

sound_late : (w : World) (a : Action) (before : List Former) (f : Former) (after : List Former)
    → AllByRecursion (λ (f : Former). f.term < w.term) before → f.term < w.term
    → AllByRecursion (λ (f : Former). f.term < w.term) after
    → IsSound w → IsSound (late all_rules w a before f after)
sound_late w (Deliver k) before f after b l c h =
    sound_former (record w { requests = v.requests; sink = v.sink })
    (before ++ (remembers f.term (Some f.run) ++ after)) (terms_both before _ w.term b (l, c))
    (sound_deliver w w.run k h)
  where
    v : World
    v = act all_rules f.term (record w { run = Some f.run }) f.run (Deliver k)
sound_late w a before f after b l c h =
    let v = act all_rules f.term (record w { run = Some f.run }) f.run a in
    let fs = before ++ (remembers f.term v.run ++ after) in
    subst IsSound (sym (cond-false (f.term == w.term) (record v { run = w.run; former = fs })
    (record w { former = fs }) (ne_eqb _ _ (λ e. absurd (omega (arith, e, l))))))
    (sound_former w fs (terms_both before _ w.term b
    (terms_both (remembers f.term v.run) after w.term (term_of f.term v.run w.term l) c)) h)

sound_any_late : (w : World) (a : Action) (k : ℕ) (before fs : List Former)
    → AllByRecursion (λ (f : Former). f.term < w.term) before
    → AllByRecursion (λ (f : Former). f.term < w.term) fs → IsSound w
    → IsSound (does_late all_rules w a k before fs)
sound_any_late w a k before [] b c h = h
sound_any_late w a zero before (f ∷ fs) b c h = sound_late w a before f fs b c.0 c.1 h
sound_any_late w a (suc k) before (f ∷ fs) b c h =
    sound_any_late w a k (before ++ f ∷ []) fs (terms_both before (f ∷ []) w.term b (c.0, tt)) c.1 h

sound_do : (w : World) (a : Action) (o : Option Run) → IsSound (record w { run = o })
    → IsSound (does all_rules (record w { run = o }) a o)
sound_do w a None h = h
sound_do w a (Some r) h = sound_act w r w.term a h

sound_look : (w : World) (o : Option Run) → IsSound (record w { run = o })
    → IsSound (record w { run = o; seen = Some (seen_of w) })
sound_look w o h = record {
  groups = h.groups;
  bound = h.bound;
  turn = h.turn;
  spans = h.spans;
  told = h.told;
  running = runs o h.running;
  former = h.former;
  fit = h.fit;
  sink = h.sink;
}
  where
    runs : (o : Option Run) → IsRunning (record w { run = o }) o
        → IsRunning (record w { run = o; seen = Some (seen_of w) }) o
    runs None i = tt
    runs (Some r) i = i

sound_event : (w : World) (e : Event) → IsSound w → IsSound (happens all_rules w e)
sound_event w (Do a) h = sound_do w a w.run h
sound_event w (Late k a) h = sound_any_late w a k [] w.former tt h.former h
sound_event w (Kill n) h = sound_kill w n w.run h
sound_event w LosePower h = sound_power w h
sound_event w Look h = sound_look w w.run h
sound_event w Start h = sound_start w h

pub sound_all : (w : World) (es : List Event) → IsSound w → IsSound (all_behind all_rules w es)
sound_all w [] h = h
sound_all w (e ∷ es) h = sound_all (happens all_rules w e) es (sound_event w e h)

pub sound_empty : IsSound empty
sound_empty = record {
  groups = same_itself [];
  bound = omega arith;
  turn = refl;
  spans = refl;
  told = tt;
  running = tt;
  former = tt;
  fit = tt;
  sink = λ x. refl;
}
