-- What a process does with its books keeps the machine sound: a post, a checkpoint's begin and end,
-- what is given back.
use Rattle.std.proofs.Common.{◌≡◌, ℕ, ◌≤◌, true, not, ◌&&◌, Option, Some, None, List, [], ◌∷◌, ◌++◌}
use Rattle.std.proofs.Common.{map, length, take, drop, refl, ap, sym, ◌∙◌, subst, append_assoc}
use Rattle.std.proofs.Common.{arith}
use Rattle.std.specs.Prelude.{nat_le}
use Rattle.std.specs.List.{list_all}
use Rattle.std.proofs.lemmas.Bool.{and_parts, and_from, cond_both, leb-true}
use Rattle.std.proofs.lemmas.List.{append-nil, take-append-le, drop-append-le, drop_all, take_all}
use Rattle.std.proofs.lemmas.List.{length-append}
use Rattle.metric_events.specs.DataPoint.{DataPoint}
use Rattle.metric_events.specs.Points.{admitted}
use Rattle.metric_events.specs.Series.{sum_of}
use Rattle.metric_events.specs.Legal.{is_held, is_in_order}
use Rattle.metric_events.specs.Recovery.{are_in_turn, bare_points}
use Rattle.metric_events.specs.Congruence.{AreInterleaved}
use Rattle.metric_events.specs.Recall.{posted}
use Rattle.metric_events.specs.declared.accepted.Accepted.{Accepted}
use Rattle.metric_events.specs.declared.batch.Batch.{Batch}
use Rattle.metric_events.proofs.Lists.{all_append}
use Rattle.metric_events.proofs.Recovering.{turn_append, turn_last, turn_order}
use Rattle.metric_events.proofs.Interleaving.{turn_interleaved}
use Rattle.service_law.specs.Machine.{Checkpoint, Run, World, begun, book, committed, free_points}
use Rattle.service_law.specs.Machine.{given_back, group_of, has_span, held_points, held_posts}
use Rattle.service_law.specs.Machine.{may_commit, request, sent, takes, has_taken}
use Rattle.service_law.specs.Counted.{all_rules}
use Rattle.service_law.proofs.Same.{same_itself, same_equal, same_back, same_on, same_both}
use Rattle.service_law.proofs.Same.{same_filter, posted-append, posted-filter, parted, turn_bare}
use Rattle.service_law.proofs.Requests.{sent_last, fit_last, delivered_last}
use Rattle.service_law.proofs.Once.{spanned}
use Rattle.service_law.proofs.Sound.{IsUnderWay, IsRun, IsSound, all_booked, groups_in, left_more}
use Rattle.service_law.proofs.Sound.{left_over, split_all}

span_bare : (s : List ℕ) (ds : List DataPoint) → list_all has_span ds ≡ true
    → list_all spanned (map (admitted 0 s) ds) ≡ true
span_bare s [] h = refl
span_bare s (d ∷ ds) h = let l = and_parts (has_span d) (list_all has_span ds) h in
    and_from _ _ l.0 (span_bare s ds l.1)

-- the posts with one more
posted_last : (all : List Batch) (p : Batch) → posted (all ++ p ∷ []) ≡ posted all ++ bare_points p
posted_last all p =
    posted-append all (p ∷ []) ∙ ap (λ us. posted all ++ us) (append-nil (bare_points p))

-- a post that the books take
run_taken : (out : List Accepted) (kept : List Batch) (first : ℕ) (all : List Batch) (r : Run)
    (p : Batch) (o : Option Checkpoint) → first ≤ length all
    → IsRun out kept first all (record r { checkpoint = o })
    → IsRun out kept first (all ++ p ∷ []) (has_taken all_rules p (record r { checkpoint = o }))
run_taken out kept first all r p o l i = record {
  known = i.known;
  pending = same_on (same_equal (left_more kept first all (p ∷ []) l
      ∙ ap (λ us. posted (left_over kept first all) ++ us) (append-nil (bare_points p))))
      (same_on (same_both i.pending (same_itself (bare_points p)))
      (same_equal (append_assoc (group_of o) r.pending (bare_points p))));
  checkpoint = under o i.checkpoint;
}
  where
    under : (o : Option Checkpoint) → IsUnderWay out all r.pending o
        → IsUnderWay out (all ++ p ∷ []) (r.pending ++ bare_points p) o
    under None u = tt
    under (Some c) u = record {
      reach = omega (arith, u.reach, length-append all (p ∷ []));
      group = subst (λ (ps : List Batch). AreInterleaved (posted ps)
          (out ++ (c.group ++ posted c.held))) (sym (take-append-le c.turn all (p ∷ []) u.reach))
          u.group;
      rest = same_on (same_equal (ap (λ (ps : List Batch). posted c.held ++ posted ps)
          (drop-append-le c.turn all (p ∷ []) u.reach)
          ∙ (ap (λ us. posted c.held ++ us) (posted_last (drop c.turn all) p)
          ∙ sym (append_assoc (posted c.held) (posted (drop c.turn all)) (bare_points p)))))
          (same_both u.rest (same_itself (bare_points p)));
    }

pub sound_post : (w : World) (r : Run) (p : Batch) → takes r p ≡ true
    → IsSound (record w { run = Some r })
    → IsSound (record w { run = Some (has_taken all_rules p r) })
sound_post w r p t h = record {
  groups = h.groups;
  bound = h.bound;
  turn = ap (λ (ps : List Batch). are_in_turn [] (posted ps)) longer
      ∙ (ap (are_in_turn []) (posted_last all p) ∙ in_turn);
  spans = ap (λ (ps : List Batch). list_all spanned (posted ps)) longer
      ∙ (ap (list_all spanned) (posted_last all p)
      ∙ all_append spanned (posted all) (bare_points p) h.spans
      (span_bare p.sender p.points fits.0));
  told = h.told;
  running = (
    h.running.0,
    subst (λ (ps : List Batch). IsRun (sent w.requests) w.kept w.first ps
        (has_taken all_rules p r)) (sym longer)
        (run_taken (sent w.requests) w.kept w.first all r p r.checkpoint
        (omega (arith, h.bound, length-append w.journal r.queue)) h.running.1),
  );
  former = h.former;
  fit = h.fit;
  sink = h.sink;
}
  where
    all : List Batch
    all = w.journal ++ r.queue

    longer : w.journal ++ (r.queue ++ p ∷ []) ≡ all ++ p ∷ []
    longer = sym (append_assoc w.journal r.queue (p ∷ []))

    fits : (list_all has_span p.points ≡ true) × (is_in_order (book r) p.sender p.points ≡ true)
    fits = and_parts (list_all has_span p.points) (is_in_order (book r) p.sender p.points)
        (and_parts (not (is_held p.sender r.held))
        (list_all has_span p.points && is_in_order (book r) p.sender p.points) t).1

    booked : AreInterleaved (posted all) (book r)
    booked = all_booked (sent w.requests) w.kept w.first all r
        (groups_in w r.queue (omega (arith, h.bound)) h.groups) h.running.1

    in_turn : are_in_turn [] (posted all ++ bare_points p) ≡ true
    in_turn = turn_interleaved [] (book r ++ bare_points p) (posted all ++ bare_points p)
        (same_both (same_back booked) (same_itself (bare_points p)))
        (turn_append [] (book r) (bare_points p)
        (turn_interleaved [] (posted all) (book r) booked h.turn)
        (turn_order p.sender p.points (book r) ∙ fits.1))

-- a checkpoint begins
run_begun : (w : World) (r : Run) (o : Option Checkpoint) → w.first ≤ length w.journal
    → AreInterleaved (posted (take w.first w.journal)) (sent w.requests ++ posted w.kept)
    → are_in_turn [] (posted (w.journal ++ r.queue)) ≡ true
    → IsRun (sent w.requests) w.kept w.first (w.journal ++ r.queue) (record r { checkpoint = o })
    → IsRun (sent w.requests) w.kept w.first (w.journal ++ r.queue)
    (begun all_rules w (record r { checkpoint = o }) o)
run_begun w r (Some c) l g t i = i
run_begun w r None l g t i = record {
  known = i.known;
  pending = same_on i.pending parts;
  checkpoint = record {
    reach = omega arith;
    group = same_on (same_equal (ap posted (take_all (length all) all (omega arith))))
        (same_on (split_all (sent w.requests) w.kept w.first all (groups_in w r.queue l g))
        (same_both (same_itself (sent w.requests))
        (same_on i.pending
        (same_on parts (same_both (same_itself (free_points r.held r.pending)) held)))));
    rest = same_on (same_equal (ap (λ (ps : List Batch). posted
        (held_posts r.held (left_over w.kept w.first all)) ++ posted ps)
        (drop_all (length all) all (omega arith))
        ∙ append-nil (posted (held_posts r.held (left_over w.kept w.first all)))))
        (same_back held);
  };
}
  where
    all : List Batch
    all = w.journal ++ r.queue

    in_turn : are_in_turn [] r.pending ≡ true
    in_turn = turn_bare r.known r.pending
        (turn_last [] r.known r.pending
        (turn_interleaved [] (posted all) (r.known ++ r.pending)
        (all_booked (sent w.requests) w.kept w.first all (record r { checkpoint = None })
        (groups_in w r.queue l g) i) t))

    parts : AreInterleaved r.pending (free_points r.held r.pending ++ held_points r.held r.pending)
    parts = parted (λ s. is_held s r.held) r.pending in_turn

    held : AreInterleaved (held_points r.held r.pending)
        (posted (held_posts r.held (left_over w.kept w.first all)))
    held = same_on (same_filter (λ a. is_held a.sender r.held) (same_back i.pending))
        (same_equal (sym (posted-filter (λ s. is_held s r.held) (left_over w.kept w.first all))))

pub sound_begin : (w : World) (r : Run) (o : Option Checkpoint)
    → IsSound (record w { run = Some (record r { checkpoint = o }) })
    → IsSound (record w {
      run = Some (begun all_rules
          (record w { run = Some (record r { checkpoint = o }) }) (record r { checkpoint = o }) o);
    })
sound_begin w r (Some c) h = h
sound_begin w r None h = record {
  groups = h.groups;
  bound = h.bound;
  turn = h.turn;
  spans = h.spans;
  told = h.told;
  running = (h.running.0, run_begun w r None (omega (arith, h.bound)) h.groups h.turn h.running.1);
  former = h.former;
  fit = h.fit;
  sink = h.sink;
}

-- what it took is given back
pub run_back : (out : List Accepted) (kept : List Batch) (first : ℕ) (all : List Batch) (r : Run)
    (o : Option Checkpoint) → IsRun out kept first all (record r { checkpoint = o })
    → IsRun out kept first all (given_back (record r { checkpoint = o }) o)
run_back out kept first all r None i = i
run_back out kept first all r (Some c) i =
    record { known = i.known; pending = i.pending; checkpoint = tt }

pub sound_back : (w : World) (r : Run) (o : Option Checkpoint)
    → IsSound (record w { run = Some (record r { checkpoint = o }) })
    → IsSound (record w { run = Some (given_back (record r { checkpoint = o }) o) })
sound_back w r None h = h
sound_back w r (Some c) h = record {
  groups = h.groups;
  bound = h.bound;
  turn = h.turn;
  spans = h.spans;
  told = h.told;
  running = (
    h.running.0,
    run_back (sent w.requests) w.kept w.first (w.journal ++ r.queue) r
        (Some c) h.running.1,
  );
  former = h.former;
  fit = h.fit;
  sink = h.sink;
}

-- it is committed
pub sound_commit : (w : World) (r : Run) (o : Option Checkpoint)
    → IsSound (record w { run = Some (record r { checkpoint = o }) })
    → IsSound (committed all_rules (record w { run = Some (record r { checkpoint = o }) })
    (record r { checkpoint = o }) o)
sound_commit w r None h = h
sound_commit w r (Some c) h = cond_both
    (may_commit all_rules (record w { run = Some (record r { checkpoint = Some c }) }) c)
    _ _ IsSound (λ e. done
    (leb-true _ _ (and_parts c.turned (nat_le c.turn (length w.journal)) e).1)) (λ e. h)
  where
    all : List Batch
    all = w.journal ++ r.queue

    i : IsRun (sent w.requests) w.kept w.first all (record r { checkpoint = Some c })
    i = h.running.1

    done : c.turn ≤ length w.journal → IsSound (record w {
      first = c.turn;
      kept = c.held;
      requests = w.requests ++ request c.group ∷ [];
      run = Some (record r { known = r.known ++ c.group; checkpoint = None });
    })
    done l = record {
      groups = same_on (subst (λ (ps : List Batch). AreInterleaved (posted ps)
          (sent w.requests ++ (c.group ++ posted c.held)))
          (take-append-le c.turn w.journal r.queue l) i.checkpoint.group)
          (same_equal (sym (append_assoc (sent w.requests) c.group (posted c.held))
          ∙ ap (λ us. us ++ posted c.held) (sym (sent_last w.requests c.group))));
      bound = omega (arith, l, h.running.0);
      turn = h.turn;
      spans = h.spans;
      told = h.told;
      running = (
        h.running.0,
        record {
          known = same_on (same_equal (sent_last w.requests c.group))
              (same_both i.known (same_itself c.group));
          pending = same_on (same_equal (posted-append c.held (drop c.turn all))) i.checkpoint.rest;
          checkpoint = tt;
        },
      );
      former = h.former;
      fit = fit_last w.requests c.group h.fit;
      sink = λ x. h.sink x ∙ ap (sum_of x) (sym (delivered_last w.requests c.group));
    }
