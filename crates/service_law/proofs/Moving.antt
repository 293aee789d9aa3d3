-- Each action of a process keeps the machine sound.
use Rattle.std.proofs.Common.{◌≡◌, ℕ, zero, suc, ◌-◌, Option, Some, None, List, [], ◌∷◌, ◌++◌}
use Rattle.std.proofs.Common.{length, take, drop, refl, ap, sym, ◌∙◌, subst, append_assoc, inl, inr}
use Rattle.std.proofs.Common.{arith}
use Rattle.std.specs.List.{list_all, filter, AllByRecursion}
use Rattle.std.proofs.lemmas.Bool.{cond_both}
use Rattle.std.proofs.lemmas.List.{append-nil, take-append-drop, take_all, length-append}
use Rattle.series_id.specs.Identity.{Identity}
use Rattle.metric_events.specs.Rows.{add_rows}
use Rattle.metric_events.specs.Running.{is_other_sender}
use Rattle.metric_events.specs.Series.{sum_of}
use Rattle.metric_events.specs.Recovery.{are_in_turn}
use Rattle.metric_events.specs.Congruence.{AreInterleaved}
use Rattle.metric_events.specs.Recall.{posted}
use Rattle.metric_events.specs.declared.accepted.Accepted.{Accepted}
use Rattle.metric_events.specs.declared.batch.Batch.{Batch}
use Rattle.metric_events.proofs.Sums.{add_rows-comm}
use Rattle.metric_events.proofs.Bare.{sum_append}
use Rattle.service_law.specs.Machine.{Action, Post, Place, Write, Answer, Refuse, Begin, Turn}
use Rattle.service_law.specs.Machine.{Commit, Tear, GiveBack, Deliver, Acknowledge, Drop, Resend}
use Rattle.service_law.specs.Machine.{Delete, Quarantine, Lift, Checkpoint, Request, Run, World}
use Rattle.service_law.specs.Machine.{act, acknowledged, change, dropped, gained, post_at, reached}
use Rattle.service_law.specs.Machine.{resent, sent, takes, torn}
use Rattle.service_law.specs.Counted.{IsOne, all_rules, delivered, queue_of}
use Rattle.service_law.proofs.Requests.{IsFit, all_change, sent_change, ack_points, ack_fits}
use Rattle.service_law.proofs.Requests.{drop_points, drop_fits, resent_points, resent_fits}
use Rattle.service_law.proofs.Requests.{delivered_ack, delivered_drop, delivered_resent}
use Rattle.service_law.proofs.Requests.{reach_points, reach_fits, delivered_reach}
use Rattle.service_law.proofs.Once.{spanned}
use Rattle.service_law.proofs.Sound.{IsRun, IsRunning, IsSound, firm, groups_in, spans_of_first}
use Rattle.service_law.proofs.Sound.{told_both, told_more, turn_of_first}
use Rattle.service_law.proofs.Booking.{sound_post, sound_begin, sound_back, sound_commit}

-- with nothing loose the whole journal is firm
pub firm_all : (ps : List Batch) (loose : ℕ) → loose ≡ 0 → take (length ps - loose) ps ≡ ps
firm_all ps loose e = take_all (length ps - loose) ps (omega (arith, e))

pub sound_write : (w : World) (r : Run) (n : ℕ) → IsSound (record w { run = Some r })
    → IsSound (record w {
      journal = w.journal ++ take n r.queue;
      run =
          Some (record r { queue = drop n r.queue });
    })
sound_write w r n h = record {
  groups = groups_in w (take n r.queue) (omega (arith, h.bound)) h.groups;
  bound = omega (arith, h.bound, length-append w.journal (take n r.queue));
  turn = ap (λ (ps : List Batch). are_in_turn [] (posted ps)) same ∙ h.turn;
  spans = ap (λ (ps : List Batch). list_all spanned (posted ps)) same ∙ h.spans;
  told = subst (λ (ps : List Batch). AllByRecursion (λ p. IsOne p ps) w.told)
      (sym (firm_all (w.journal ++ take n r.queue) w.loose h.running.0))
      (told_more w.told w.journal (take n r.queue)
      (subst (λ (ps : List Batch). AllByRecursion (λ p. IsOne p ps) w.told)
      (firm_all w.journal w.loose h.running.0) h.told));
  running = (
    h.running.0,
    subst (λ (ps : List Batch). IsRun (sent w.requests) w.kept w.first ps
        (record r { queue = drop n r.queue })) (sym same)
        (record {
          known = h.running.1.known;
          pending = h.running.1.pending;
          checkpoint =
              h.running.1.checkpoint;
        }),
  );
  former = h.former;
  fit = h.fit;
  sink = h.sink;
}
  where
    same : (w.journal ++ take n r.queue) ++ drop n r.queue ≡ w.journal ++ r.queue
    same = append_assoc w.journal (take n r.queue) (drop n r.queue)
        ∙ ap (λ ps. w.journal ++ ps) (take-append-drop n r.queue)

all_behind_one : (q : Batch) (ps ts : List Batch) → AllByRecursion (λ p. IsOne p ps) ts
    → AllByRecursion (λ p. IsOne p (q ∷ ps)) ts
all_behind_one q ps [] a = tt
all_behind_one q ps (t ∷ ts) a = (inr a.0, all_behind_one q ps ts a.1)

at_place : (k : ℕ) (ps : List Batch) → AllByRecursion (λ p. IsOne p ps) (post_at k ps)
at_place zero [] = tt
at_place (suc k) [] = tt
at_place zero (p ∷ ps) = (inl refl, tt)
at_place (suc k) (p ∷ ps) = all_behind_one p ps (post_at k ps) (at_place k ps)

pub sound_told : (w : World) (r : Run) (k : ℕ) → IsSound (record w { run = Some r })
    → IsSound (record w { run = Some r; told = post_at k w.journal ++ w.told })
sound_told w r k h = record {
  groups = h.groups;
  bound = h.bound;
  turn = h.turn;
  spans = h.spans;
  told = told_both (post_at k w.journal) w.told (firm w)
      (subst (λ (ps : List Batch). AllByRecursion (λ p. IsOne p ps) (post_at k w.journal))
      (sym (firm_all w.journal w.loose h.running.0)) (at_place k w.journal)) h.told;
  running = (h.running.0, h.running.1);
  former = h.former;
  fit = h.fit;
  sink = h.sink;
}

-- requests that are changed, but for their points, beside what the sink counts
pub sound_requests : (w : World) (o : Option Run) (qs : List Request) (us : List Accepted)
    → sent qs ≡ sent w.requests → AllByRecursion IsFit qs
    → ((x : Identity) → sum_of x us ≡ sum_of x (delivered qs))
    → IsSound (record w { run = o }) → IsSound (record w { run = o; requests = qs; sink = us })
sound_requests w o qs us e f s h = record {
  groups = subst (λ (us : List Accepted). AreInterleaved (posted (take w.first w.journal))
      (us ++ posted w.kept)) (sym e) h.groups;
  bound = h.bound;
  turn = h.turn;
  spans = h.spans;
  told = h.told;
  running = runs o h.running;
  former = h.former;
  fit = f;
  sink = s;
}
  where
    runs : (o : Option Run) → IsRunning (record w { run = o }) o
        → IsRunning (record w { run = o; requests = qs; sink = us }) o
    runs None i = tt
    runs (Some r) i = (
      i.0,
      subst
          (λ (us : List Accepted). IsRun us w.kept w.first (w.journal ++ r.queue) r) (sym e) i.1,
    )

pub sound_deliver : (w : World) (o : Option Run) (k : ℕ) → IsSound (record w { run = o })
    → IsSound (record w {
      run = o;
      requests = change (reached 0) k w.requests;
      sink =
          w.sink ++ gained 0 k w.requests;
    })
sound_deliver w o k h =
    sound_requests w o (change (reached 0) k w.requests) (w.sink ++ gained 0 k w.requests)
    (sent_change (reached 0) reach_points k w.requests)
    (all_change IsFit (reached 0) reach_fits k w.requests h.fit)
    (λ x. sum_append x w.sink (gained 0 k w.requests)
    ∙ (ap (λ row. add_rows row (sum_of x (gained 0 k w.requests))) (h.sink x)
    ∙ (add_rows-comm (sum_of x (delivered w.requests)) (sum_of x (gained 0 k w.requests))
    ∙ sym (delivered_reach x k w.requests h.fit))))
    h

sound_ack : (w : World) (o : Option Run) (k : ℕ) → IsSound (record w { run = o })
    → IsSound (record w { run = o; requests = change (acknowledged all_rules) k w.requests })
sound_ack w o k h =
    sound_requests w o (change (acknowledged all_rules) k w.requests) w.sink
    (sent_change (acknowledged all_rules) ack_points k w.requests)
    (all_change IsFit (acknowledged all_rules) ack_fits k w.requests h.fit)
    (λ x. h.sink x ∙ ap (sum_of x) (sym (delivered_ack k w.requests))) h

sound_drop : (w : World) (o : Option Run) (k : ℕ) → IsSound (record w { run = o })
    → IsSound (record w { run = o; requests = change (dropped all_rules) k w.requests })
sound_drop w o k h =
    sound_requests w o (change (dropped all_rules) k w.requests) w.sink
    (sent_change (dropped all_rules) drop_points k w.requests)
    (all_change IsFit (dropped all_rules) drop_fits k w.requests h.fit)
    (λ x. h.sink x ∙ ap (sum_of x) (sym (delivered_drop k w.requests))) h

sound_resent : (w : World) (o : Option Run) (k : ℕ) → IsSound (record w { run = o })
    → IsSound (record w { run = o; requests = change resent k w.requests })
sound_resent w o k h =
    sound_requests w o (change resent k w.requests) w.sink
    (sent_change resent resent_points k w.requests)
    (all_change IsFit resent resent_fits k w.requests h.fit)
    (λ x. h.sink x ∙ ap (sum_of x) (sym (delivered_resent k w.requests))) h

sound_deleted : (w : World) (r : Run) → IsSound (record w { run = Some r })
    → IsSound (record w { run = Some r; deleted = w.first })
sound_deleted w r h = record {
  groups = h.groups;
  bound = h.bound;
  turn = h.turn;
  spans = h.spans;
  told = h.told;
  running = h.running;
  former = h.former;
  fit = h.fit;
  sink = h.sink;
}

-- other senders are quarantined
sound_held : (w : World) (r : Run) (ss hs : List (List ℕ)) → IsSound (record w { run = Some r })
    → IsSound (record w { quarantined = ss; run = Some (record r { held = hs }) })
sound_held w r ss hs h = record {
  groups = h.groups;
  bound = h.bound;
  turn = h.turn;
  spans = h.spans;
  told = h.told;
  running = (
    h.running.0,
    record {
      known = h.running.1.known;
      pending =
          h.running.1.pending;
      checkpoint = h.running.1.checkpoint;
    },
  );
  former = h.former;
  fit = h.fit;
  sink = h.sink;
}

-- the process ends, and what is in its memory is gone
pub sound_down : (w : World) (o : Option Run) → IsSound (record w { run = o })
    → IsSound (record w { run = None })
sound_down w o h = record {
  groups = h.groups;
  bound = h.bound;
  turn = ap (λ (ps : List Batch). are_in_turn [] (posted ps)) (append-nil w.journal)
      ∙ turn_of_first w.journal (queue_of o) h.turn;
  spans = ap (λ (ps : List Batch). list_all spanned (posted ps)) (append-nil w.journal)
      ∙ spans_of_first w.journal (queue_of o) h.spans;
  told = h.told;
  running = tt;
  former = h.former;
  fit = h.fit;
  sink = h.sink;
}

sound_tear : (w : World) (r : Run) (n : ℕ) (o : Option Checkpoint)
    → IsSound (record w { run = Some (record r { checkpoint = o }) })
    → IsSound (torn all_rules n (record w { run = Some (record r { checkpoint = o }) })
    (record r { checkpoint = o }) o)
sound_tear w r n None h = h
sound_tear w r n (Some c) h = sound_down w (Some (record r { checkpoint = Some c })) h

pub sound_act : (w : World) (r : Run) (t : ℕ) (a : Action) → IsSound (record w { run = Some r })
    → IsSound (act all_rules t (record w { run = Some r }) r a)
sound_act w r t (Post p) h = cond_both (takes r p)
    _ _ (λ (s : Run). IsSound (record w { run = Some s })) (λ e. sound_post w r p e h) (λ e. h)
sound_act w r t (Place k) h = h
sound_act w r t (Write n) h = sound_write w r n h
sound_act w r t (Answer k) h = sound_told w r k h
sound_act w r t (Refuse k) h = sound_told w r k h
sound_act w r t Begin h = sound_begin w r r.checkpoint h
sound_act w r t Turn h = h
sound_act w r t Commit h = sound_commit w r r.checkpoint h
sound_act w r t (Tear n) h = sound_tear w r n r.checkpoint h
sound_act w r t GiveBack h = sound_back w r r.checkpoint h
sound_act w r t (Deliver k) h = sound_deliver w (Some r) k h
sound_act w r t (Acknowledge k) h = sound_ack w (Some r) k h
sound_act w r t (Drop k) h = sound_drop w (Some r) k h
sound_act w r t (Resend k) h = sound_resent w (Some r) k h
sound_act w r t Delete h = sound_deleted w r h
sound_act w r t (Quarantine s) h = sound_held w r (w.quarantined ++ s ∷ []) (r.held ++ s ∷ []) h
sound_act w r t (Lift s) h =
    sound_held w r (filter (is_other_sender s) w.quarantined) (filter (is_other_sender s) r.held) h
