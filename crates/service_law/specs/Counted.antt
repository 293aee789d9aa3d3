-- What has to hold of the machine: each accepted point is in one place, and counts once.
use Rattle.std.specs.Prelude.{◌≡◌, ℕ, suc, ◌==◌, Bool, true, false, not, ◌&&◌, ◌⊎◌, List, [], ◌∷◌}
use Rattle.std.specs.Prelude.{◌++◌, if◌then◌else◌, Some, None, Option}
use Rattle.series_id.specs.Identity.{Identity}
use Rattle.series_id.specs.Order.{same_series}
use Rattle.metric_events.specs.DataPoint.{DataPoint}
use Rattle.metric_events.specs.Rows.{add_rows}
use Rattle.metric_events.specs.Series.{sum_of}
use Rattle.metric_events.specs.Congruence.{AreInterleaved}
use Rattle.metric_events.specs.Recall.{posted}
use Rattle.metric_events.specs.declared.accepted.Accepted.{Accepted}
use Rattle.metric_events.specs.declared.batch.Batch.{Batch}
use Rattle.service_law.specs.Machine.{Rules, Request, Run, World, is_dropped}
use Rattle.service_law.specs.Machine.{group_of, unsent, held_points, free_points, is_waiting}
use Rattle.service_law.specs.Machine.{has_none, sent}

-- the accepted posts: those of the journal, and those that are on the way to it
abbrev pub queue_of : Option Run → List Batch
queue_of None = []
queue_of (Some r) = r.queue

abbrev pub accepted : World → List Batch
accepted w = w.journal ++ queue_of w.run

-- the points that the books have and no request has, or that a start would give them
abbrev pub in_books : World → Option Run → List Accepted
in_books w None = posted (unsent w w.journal)
in_books w (Some r) = group_of r.checkpoint ++ r.pending

-- of these: what is quarantined, and what is pending. What a checkpoint took is pending
abbrev pub quarantined : World → Option Run → List Accepted
quarantined w None = held_points w.quarantined (posted (unsent w w.journal))
quarantined w (Some r) = held_points r.held r.pending

abbrev pub pending : World → Option Run → List Accepted
pending w None = free_points w.quarantined (posted (unsent w w.journal))
pending w (Some r) = group_of r.checkpoint ++ free_points r.held r.pending

-- the points of the requests that pass a test: the sink has it, it was dropped, it waits
abbrev pub points_where : (Request → Bool) → List Request → List Accepted
points_where t [] = []
points_where t (q ∷ qs) = if t q then q.points ++ points_where t qs else points_where t qs

abbrev pub delivered : List Request → List Accepted
delivered qs = points_where (λ q. not (has_none q.has)) qs

abbrev pub dead : List Request → List Accepted
dead qs = points_where (λ q. is_dropped q.fate) qs

abbrev pub outbox : List Request → List Accepted
outbox qs = points_where (λ q. is_waiting q.fate && has_none q.has) qs

-- bucket by bucket, a series' delivered, dropped, waiting, pending and quarantined points come to
-- its accepted ones
abbrev pub AddsUp : World → Identity → Type 0
AddsUp w x =
    add_rows (sum_of x (delivered w.requests))
    (add_rows (sum_of x (dead w.requests))
    (add_rows (sum_of x (outbox w.requests))
    (add_rows (sum_of x (pending w w.run)) (sum_of x (quarantined w w.run)))))
    ≡ sum_of x (posted (accepted w))

-- how many of these points are of the same series as a point, and end when it does
abbrev pub is_same_point : DataPoint → Accepted → Bool
is_same_point d a = same_series a.point.series d.series && a.point.span.end == d.span.end

abbrev pub times : DataPoint → List Accepted → ℕ
times d [] = 0
times d (a ∷ qs) = if is_same_point d a then suc (times d qs) else times d qs

-- one of a list
abbrev pub IsOne : {A : Type 0} → A → List A → Type 0
IsOne x [] = ⊥
IsOne x (y ∷ ys) = (y ≡ x) ⊎ IsOne x ys

-- Each accepted point is in a request or in the books, in each series in the order of the journal,
-- and in no two places. The sums of the places add up. The sink has what the requests say that
-- reached it, each once. Each point of a post whose sender was told is accepted exactly once
pub record IsCounted (w : World) : Type 0 where
  pub places : AreInterleaved (posted (accepted w)) (sent w.requests ++ in_books w w.run)
  pub sums : (x : Identity) → AddsUp w x
  pub sink : (x : Identity) → sum_of x w.sink ≡ sum_of x (delivered w.requests)
  pub told : (p : Batch) (d : DataPoint) → IsOne p w.told → IsOne d p.points
      → times d (posted (accepted w)) ≡ 1

-- all rules, by name; with all of them kept, and with one left out
pub data Rule : Type 0 where
  AnswerWaits RefusalWaits OneStep AllOrNone TakeTurns JournalFirst GroupsWhole : Rule
  FailureEnds HeldKept Primed InOrder Synced Numbered Fenced ReadBehind SinkAnswers : Rule
  RefusalTrue OwnKey : Rule

abbrev pub all_rules : Rules
all_rules = record {
  answer_waits = true;
  refusal_waits = true;
  one_step = true;
  all_or_none = true;
  take_turns = true;
  journal_first = true;
  groups_whole = true;
  failure_ends = true;
  held_kept = true;
  primed = true;
  in_order = true;
  synced = true;
  numbered = true;
  fenced = true;
  read_behind = true;
  sink_answers = true;
  refusal_true = true;
  own_key = true;
}

abbrev pub without : Rule → Rules
without AnswerWaits = record all_rules { answer_waits = false }
without RefusalWaits = record all_rules { refusal_waits = false }
without OneStep = record all_rules { one_step = false }
without AllOrNone = record all_rules { all_or_none = false }
without TakeTurns = record all_rules { take_turns = false }
without JournalFirst = record all_rules { journal_first = false }
without GroupsWhole = record all_rules { groups_whole = false }
without FailureEnds = record all_rules { failure_ends = false }
without HeldKept = record all_rules { held_kept = false }
without Primed = record all_rules { primed = false }
without InOrder = record all_rules { in_order = false }
without Synced = record all_rules { synced = false }
without Numbered = record all_rules { numbered = false }
without Fenced = record all_rules { fenced = false }
without ReadBehind = record all_rules { read_behind = false }
without SinkAnswers = record all_rules { sink_answers = false }
without RefusalTrue = record all_rules { refusal_true = false }
without OwnKey = record all_rules { own_key = false }
