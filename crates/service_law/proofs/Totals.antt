-- Where the machine is sound each accepted point counts once.
use Rattle.std.proofs.Common.{◌≡◌, ℕ, ◌-◌, Option, Some, None, List, [], ◌++◌, length, drop, ap}
use Rattle.std.proofs.Common.{sym, ◌∙◌, subst, arith}
use Rattle.std.proofs.lemmas.List.{append-nil, take-append-drop}
use Rattle.std.specs.Prelude.{IfSome, is_none, true, false}
use Rattle.metric_events.specs.Recovery.{are_in_turn}
use Rattle.metric_events.proofs.Interleaving.{turn_interleaved}
use Rattle.service_law.specs.Machine.{book}
use Rattle.service_law.proofs.Sound.{all_booked}
use Rattle.series_id.specs.Identity.{Identity, row_length}
use Rattle.metric_events.specs.DataPoint.{DataPoint}
use Rattle.metric_events.specs.Rows.{add_rows}
use Rattle.metric_events.specs.Series.{row_sum, sum_of}
use Rattle.metric_events.specs.Legal.{is_held}
use Rattle.metric_events.specs.Congruence.{AreInterleaved}
use Rattle.metric_events.specs.Recall.{posted}
use Rattle.metric_events.specs.declared.batch.Batch.{Batch}
use Rattle.metric_events.proofs.Sums.{add_rows-assoc}
use Rattle.metric_events.proofs.Bare.{sum_append}
use Rattle.metric_events.proofs.Readmitting.{sum_parts}
use Rattle.service_law.specs.Machine.{Event, Run, World, behind, empty, free_points, group_of}
use Rattle.service_law.specs.Machine.{held_points, sent, unsent}
use Rattle.service_law.specs.Counted.{AddsUp, IsCounted, IsOne, accepted, all_rules, dead}
use Rattle.service_law.specs.Counted.{delivered, in_books, outbox, pending, quarantined, queue_of}
use Rattle.service_law.specs.Counted.{times}
use Rattle.service_law.proofs.Same.{same_itself, same_equal, same_on, same_both}
use Rattle.service_law.proofs.Requests.{classes}
use Rattle.service_law.proofs.Once.{of_posts, once}
use Rattle.service_law.proofs.Sound.{IsSound, firm, groups_in, one_left, split_all, told_in}
use Rattle.service_law.proofs.Happening.{sound_all, sound_empty}

places_of : (w : World) (o : Option Run) → IsSound (record w { run = o })
    → AreInterleaved (posted (w.journal ++ queue_of o))
    (sent w.requests ++ in_books (record w { run = o }) o)
places_of w None h = same_on (same_equal (ap posted (append-nil w.journal)))
    (split_all (sent w.requests) w.kept w.first w.journal h.groups)
places_of w (Some r) h = same_on (split_all (sent w.requests) w.kept w.first (w.journal ++ r.queue)
    (groups_in w r.queue (omega (arith, h.bound)) h.groups))
    (same_both (same_itself (sent w.requests)) h.running.1.pending)

-- what the books have is pending or quarantined
books : (w : World) (x : Identity) (o : Option Run)
    → add_rows (sum_of x (pending w o)) (sum_of x (quarantined w o)) ≡ sum_of x (in_books w o)
books w x None =
    sym (sum_parts x (λ a. is_held a.sender w.quarantined) (posted (unsent w w.journal)))
books w x (Some r) =
    ap (λ row. add_rows row (sum_of x (held_points r.held r.pending)))
    (sum_append x (group_of r.checkpoint) (free_points r.held r.pending))
    ∙ (add_rows-assoc (sum_of x (group_of r.checkpoint)) (sum_of x (free_points r.held r.pending))
    (sum_of x (held_points r.held r.pending))
    ∙ (ap (add_rows (sum_of x (group_of r.checkpoint)))
    (sym (sum_parts x (λ a. is_held a.sender r.held) r.pending))
    ∙ sym (sum_append x (group_of r.checkpoint) r.pending)))

sums_of : (w : World) → IsSound w → AreInterleaved (posted (accepted w))
    (sent w.requests ++ in_books w w.run) → (x : Identity) → AddsUp w x
sums_of w h places x =
    ap (λ row. add_rows d (add_rows e (add_rows o row))) (books w x w.run)
    ∙ (ap (add_rows d) (sym (add_rows-assoc e o b))
    ∙ (sym (add_rows-assoc d (add_rows e o) b)
    ∙ (ap (λ row. add_rows row b) (classes x w.requests h.fit)
    ∙ (sym (sum_append x (sent w.requests) (in_books w w.run))
    ∙ ap (row_sum (row_length x.kind)) (places.each x)))))
  where
    d : List ℕ
    d = sum_of x (delivered w.requests)

    e : List ℕ
    e = sum_of x (dead w.requests)

    o : List ℕ
    o = sum_of x (outbox w.requests)

    b : List ℕ
    b = sum_of x (in_books w w.run)

told_of : (w : World) → IsSound w → (p : Batch) (d : DataPoint) → IsOne p w.told → IsOne d p.points
    → times d (posted (accepted w)) ≡ 1
told_of w h p d i j =
    let durable : IsOne p w.journal =
    subst (λ (ps : List Batch). IsOne p ps)
    (take-append-drop (length w.journal - w.loose) w.journal)
    (one_left p (firm w) (drop (length w.journal - w.loose) w.journal)
    (told_in w.told (firm w) p h.told i)) in
    once [] (posted (accepted w)) d h.turn h.spans
    (of_posts (accepted w) p d (one_left p w.journal (queue_of w.run) durable) j)

booked_of : (w : World) (o : Option Run) (r : Run) → IsSound (record w { run = o }) → o ≡ Some r
    → are_in_turn [] (book r) ≡ true
booked_of w None r h e = absurd (let q : true ≡ false = ap is_none e in cc q)
booked_of w (Some s) r h e =
    subst (λ (t : Option Run). IfSome t (λ u. are_in_turn [] (book u) ≡ true)) e
    (turn_interleaved [] (posted (w.journal ++ s.queue)) (book s)
    (all_booked (sent w.requests) w.kept w.first (w.journal ++ s.queue) s
    (groups_in w s.queue (omega (arith, h.bound)) h.groups) h.running.1) h.turn)

pub in_turn_law : (es : List Event) (r : Run) → (behind all_rules es).run ≡ Some r
    → are_in_turn [] (book r) ≡ true
in_turn_law es r e = of (behind all_rules es) (sound_all empty es sound_empty) e
  where
    of : (w : World) → IsSound w → w.run ≡ Some r → are_in_turn [] (book r) ≡ true
    of w h e = booked_of w w.run r h e

pub counted_law : (es : List Event) → IsCounted (behind all_rules es)
counted_law es = of (behind all_rules es) (sound_all empty es sound_empty)
  where
    of : (w : World) → IsSound w → IsCounted w
    of w h = record {
      places = places_of w w.run h;
      sums = sums_of w h (places_of w w.run h);
      sink =
          h.sink;
      told = told_of w h;
    }
