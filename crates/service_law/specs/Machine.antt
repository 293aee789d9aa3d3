-- The service as a small machine: what is on its disk, what its process has in memory, what the
-- sink has, and what may happen. Each rule is a switch, so that it can be left out.
use Rattle.std.specs.Prelude.{ℕ, zero, suc, ◌+◌, ◌-◌, ◌==◌, Bool, true, false, not, ◌&&◌, ◌||◌}
use Rattle.std.specs.Prelude.{List, [], ◌∷◌, ◌++◌, length, take, drop, reverse, filter, nat_le}
use Rattle.std.specs.Prelude.{if◌then◌else◌, Some, None, Option}
use Rattle.std.specs.List.{list_any, list_all}
use Rattle.metric_events.specs.DataPoint.{DataPoint}
use Rattle.metric_events.specs.Interval.{is_span}
use Rattle.metric_events.specs.Running.{is_other_sender}
use Rattle.metric_events.specs.Legal.{is_held, is_in_order}
use Rattle.metric_events.specs.Recovery.{bare_points}
use Rattle.metric_events.specs.declared.accepted.Accepted.{Accepted}
use Rattle.metric_events.specs.declared.batch.Batch.{Batch}

-- what the service keeps, as service/README.md says it
pub record Rules : Type 0 where
  -- a sender is answered once the record of its post is durable; so is one that repeats a post
  pub answer_waits : Bool
  pub refusal_waits : Bool
  -- a post is taken and has its place in the journal in one step
  pub one_step : Bool
  -- it is in all books that it concerns, or in none
  pub all_or_none : Bool
  -- a checkpoint takes what the books have, and turns the journal, in one step
  pub take_turns : Bool
  -- it is committed once the records of its posts are durable; whole; and where that can't be done
  -- the process ends
  pub journal_first : Bool
  pub groups_whole : Bool
  pub failure_ends : Bool
  -- posts of quarantined senders are held at a checkpoint
  pub held_kept : Bool
  -- a fresh book is primed, then gets the posts that no group has, in the journal's order
  pub primed : Bool
  pub in_order : Bool
  -- what an earlier run wrote is synced before it is believed
  pub synced : Bool
  -- posts behind a start have other numbers than those in groups, also if these are deleted
  pub numbered : Bool
  -- what a process writes counts under the latest term alone, and it reads behind its term
  pub fenced : Bool
  pub read_behind : Bool
  -- a request is acknowledged once the sink has it; dropped if it has not; its key is the store's
  pub sink_answers : Bool
  pub refusal_true : Bool
  pub own_key : Bool

-- what was decided about a request of the outbox
pub data Fate : Type 0 where
  Waiting Acknowledged Dropped : Fate

-- the points of a group, which are sent under one key. The sink has it under these keys: 0 is the
-- store's
pub record Request : Type 0 where
  pub points : List Accepted
  pub fate : Fate
  pub has : List ℕ

-- a checkpoint under way: what it took of the books; where the journal turned, by how many posts
-- are before that, and whether it did; the posts of quarantined senders among these
pub record Checkpoint : Type 0 where
  pub group : List Accepted
  pub turned : Bool
  pub turn : ℕ
  pub held : List Batch

-- What a process has in memory. Its books, as one: points that were sent, of which owner and
-- frontier are known; those that are pending; the quarantined senders. Posts whose records are not
-- durable, and those that have no place in the journal. A checkpoint
pub record Run : Type 0 where
  pub known : List Accepted
  pub pending : List Accepted
  pub held : List (List ℕ)
  pub queue : List Batch
  pub unplaced : List Batch
  pub checkpoint : Option Checkpoint

-- a process that lost its term to another one, and may not know it
pub record Former : Type 0 where
  pub term : ℕ
  pub run : Run

-- what a process that is about to start has read of the disk
pub record Seen : Type 0 where
  pub journal : List Batch
  pub first : ℕ
  pub kept : List Batch
  pub requests : List Request

-- On disk: the term; the posts of the journal from the first on, how many of the last ones are not
-- synced, and how many of the first ones are deleted; how many are in groups, but for those that
-- are kept, of quarantined senders; the outbox; who is quarantined. Then what the sink has counted,
-- what was read early, the process that has the latest term, former ones, and the posts whose
-- senders were told that they are taken
pub record World : Type 0 where
  pub term : ℕ
  pub journal : List Batch
  pub loose : ℕ
  pub deleted : ℕ
  pub first : ℕ
  pub kept : List Batch
  pub requests : List Request
  pub quarantined : List (List ℕ)
  pub sink : List Accepted
  pub seen : Option Seen
  pub run : Option Run
  pub former : List Former
  pub told : List Batch

-- what a process does. Numbers are places in a list
pub data Action : Type 0 where
  Post : (post : Batch) → Action
  Place : (k : ℕ) → Action
  Write : (n : ℕ) → Action
  Answer : (k : ℕ) → Action
  Refuse : (k : ℕ) → Action
  Begin : Action
  Turn : Action
  Commit : Action
  Tear : (n : ℕ) → Action
  GiveBack : Action
  Deliver : (k : ℕ) → Action
  Acknowledge : (k : ℕ) → Action
  Drop : (k : ℕ) → Action
  Resend : (k : ℕ) → Action
  Delete : Action
  Quarantine : (sender : List ℕ) → Action
  Lift : (sender : List ℕ) → Action

-- what may happen: the process does something, or a former one; it is killed, when n more of its
-- records were written; the power is lost; one that is about to start reads the disk; a process
-- starts, and takes the next term, whether the one before it has ended or not
pub data Event : Type 0 where
  Do : (action : Action) → Event
  Late : (k : ℕ) (action : Action) → Event
  Kill : (n : ℕ) → Event
  LosePower : Event
  Look : Event
  Start : Event

-- the points that a checkpoint took and did not commit yet
abbrev pub group_of : Option Checkpoint → List Accepted
group_of None = []
group_of (Some c) = c.group

-- what the books know, as points
abbrev pub book : Run → List Accepted
book r = r.known ++ (group_of r.checkpoint ++ r.pending)

abbrev pub has_span : DataPoint → Bool
has_span p = is_span p.span.start p.span.end

-- the books take a post
abbrev pub takes : Run → Batch → Bool
takes r p =
    not (is_held p.sender r.held)
    && (list_all has_span p.points && is_in_order (book r) p.sender p.points)

-- those of these points that the books would take alone
abbrev pub alone : Run → List ℕ → List DataPoint → List DataPoint
alone r sender points = filter (λ d. is_in_order (book r) sender (d ∷ [])) points

-- the process behind a post: it is taken, or it is refused
abbrev pub has_taken : Rules → Batch → Run → Run
has_taken R p r = record r {
  pending = r.pending ++ bare_points p;
  queue = if R.one_step then r.queue ++ p ∷ [] else r.queue;
  unplaced = if R.one_step then r.unplaced else r.unplaced ++ p ∷ [];
}

abbrev pub has_refused : Rules → Batch → Run → Run
has_refused R p r =
    if R.all_or_none then r
    else record r {
      pending =
          r.pending
          ++ bare_points (record { sender = p.sender; points = alone r p.sender p.points });
    }

abbrev pub behind_post : Rules → Batch → Run → Run
behind_post R p r = if takes r p then has_taken R p r else has_refused R p r

-- the post at a place, if there is one; the others
abbrev pub post_at : ℕ → List Batch → List Batch
post_at k [] = []
post_at zero (p ∷ ps) = p ∷ []
post_at (suc k) (p ∷ ps) = post_at k ps

abbrev pub others : ℕ → List Batch → List Batch
others k ps = take k ps ++ drop (suc k) ps

-- posts that a start has to give the books: those that are kept, and those that are in no group
abbrev pub unsent : World → List Batch → List Batch
unsent w all = w.kept ++ drop w.first all

abbrev pub held_posts : List (List ℕ) → List Batch → List Batch
held_posts held ps = filter (λ p. is_held p.sender held) ps

abbrev pub free_posts : List (List ℕ) → List Batch → List Batch
free_posts held ps = filter (λ p. not (is_held p.sender held)) ps

abbrev pub held_points : List (List ℕ) → List Accepted → List Accepted
held_points held qs = filter (λ a. is_held a.sender held) qs

abbrev pub free_points : List (List ℕ) → List Accepted → List Accepted
free_points held qs = filter (λ a. not (is_held a.sender held)) qs

-- a checkpoint begins, if none is under way
abbrev pub begun : Rules → World → Run → Option Checkpoint → Run
begun R w r (Some c) = r
begun R w r None = record r {
  pending = held_points r.held r.pending;
  checkpoint = Some (record {
    group = free_points r.held r.pending;
    turned = R.take_turns;
    turn = length (w.journal ++ r.queue);
    held = if R.held_kept then held_posts r.held (unsent w (w.journal ++ r.queue)) else [];
  });
}

abbrev pub turned_late : Rules → World → Run → Option Checkpoint → Run
turned_late R w r None = r
turned_late R w r (Some c) =
    if c.turned then r
    else record r {
      checkpoint = Some (record c {
        turned = true;
        turn = length (w.journal ++ r.queue);
        held = held_posts r.held (unsent w (w.journal ++ r.queue));
      });
    }

-- a group in the outbox
abbrev pub request : List Accepted → Request
request points = record { points = points; fate = Waiting; has = [] }

abbrev pub may_commit : Rules → World → Checkpoint → Bool
may_commit R w c = c.turned && (not R.journal_first || nat_le c.turn (length w.journal))

-- the process behind a commit: it knows what was sent
abbrev pub has_committed : Checkpoint → Run → Run
has_committed c r = record r { known = r.known ++ c.group; checkpoint = None }

abbrev pub committed : Rules → World → Run → Option Checkpoint → World
committed R w r None = w
committed R w r (Some c) =
    if may_commit R w c then record w {
      first = c.turn;
      kept = c.held;
      requests = w.requests ++ request c.group ∷ [];
      run = Some (has_committed c r);
    }
    else w

-- the group can't be written, or not wholly: n of its points are there
abbrev pub torn : Rules → ℕ → World → Run → Option Checkpoint → World
torn R n w r None = w
torn R n w r (Some c) = record w {
  requests = if R.groups_whole then w.requests else w.requests ++ request (take n c.group) ∷ [];
  run = if R.failure_ends then None else Some (record r { checkpoint = None });
}

abbrev pub given_back : Run → Option Checkpoint → Run
given_back r None = r
given_back r (Some c) = record r { pending = c.group ++ r.pending; checkpoint = None }

-- the requests with one of them changed
abbrev pub change : (Request → Request) → ℕ → List Request → List Request
change f k [] = []
change f zero (q ∷ qs) = f q ∷ qs
change f (suc k) (q ∷ qs) = q ∷ change f k qs

abbrev pub is_waiting : Fate → Bool
is_waiting Waiting = true
is_waiting fate = false

abbrev pub has_none : List ℕ → Bool
has_none [] = true
has_none (key ∷ keys) = false

-- the sink takes a request that waits, once under one key: what it has then, and what it counts
abbrev pub is_new : ℕ → Request → Bool
is_new key q = is_waiting q.fate && not (list_any (λ k. k == key) q.has)

abbrev pub reached : ℕ → Request → Request
reached key q = if is_new key q then record q { has = q.has ++ key ∷ [] } else q

abbrev pub gained : ℕ → ℕ → List Request → List Accepted
gained key k [] = []
gained key zero (q ∷ qs) = if is_new key q then q.points else []
gained key (suc k) (q ∷ qs) = gained key k qs

abbrev pub acknowledged : Rules → Request → Request
acknowledged R q =
    if is_waiting q.fate && (not R.sink_answers || not (has_none q.has))
    then record q { fate = Acknowledged } else q

abbrev pub dropped : Rules → Request → Request
dropped R q =
    if is_waiting q.fate && (not R.refusal_true || has_none q.has)
    then record q { fate = Dropped } else q

abbrev pub is_dropped : Fate → Bool
is_dropped Dropped = true
is_dropped fate = false

abbrev pub resent : Request → Request
resent q = if is_dropped q.fate then record q { fate = Waiting } else q

-- the world behind an action of a process with this term
abbrev pub act : Rules → ℕ → World → Run → Action → World
act R t w r (Post p) = record w { run = Some (behind_post R p r) }
act R t w r (Place k) =
    if R.one_step then w
    else record w {
      run = Some (record r {
        queue = r.queue ++ post_at k r.unplaced;
        unplaced = others k r.unplaced;
      });
    }
act R t w r (Write n) = record w {
  journal = w.journal ++ take n r.queue;
  run = Some (record r { queue = drop n r.queue });
}
act R t w r (Answer k) = record w {
  told = post_at k (if R.answer_waits then w.journal else w.journal ++ r.queue) ++ w.told;
}
act R t w r (Refuse k) = record w {
  told = post_at k (if R.refusal_waits then w.journal else w.journal ++ r.queue) ++ w.told;
}
act R t w r Begin = record w { run = Some (begun R w r r.checkpoint) }
act R t w r Turn =
    if R.take_turns then w else record w { run = Some (turned_late R w r r.checkpoint) }
act R t w r Commit = committed R w r r.checkpoint
act R t w r (Tear n) = torn R n w r r.checkpoint
act R t w r GiveBack = record w { run = Some (given_back r r.checkpoint) }
act R t w r (Deliver k) = record w {
  requests = change (reached (if R.own_key then 0 else t)) k w.requests;
  sink = w.sink ++ gained (if R.own_key then 0 else t) k w.requests;
}
act R t w r (Acknowledge k) = record w { requests = change (acknowledged R) k w.requests }
act R t w r (Drop k) = record w { requests = change (dropped R) k w.requests }
act R t w r (Resend k) = record w { requests = change resent k w.requests }
act R t w r Delete = record w { deleted = w.first }
act R t w r (Quarantine s) = record w {
  quarantined = w.quarantined ++ s ∷ [];
  run = Some (record r { held = r.held ++ s ∷ [] });
}
act R t w r (Lift s) = record w {
  quarantined = filter (is_other_sender s) w.quarantined;
  run = Some (record r { held = filter (is_other_sender s) r.held });
}

abbrev pub does : Rules → World → Action → Option Run → World
does R w a None = w
does R w a (Some r) = act R w.term w r a

-- what is sent to the sink is not fenced
abbrev pub is_delivery : Action → Bool
is_delivery (Deliver k) = true
is_delivery a = false

abbrev pub may_write : Rules → World → ℕ → Action → Bool
may_write R w t a = is_delivery a || (not R.fenced || t == w.term)

-- a former process with other memory, or one that has ended
abbrev pub remembers : ℕ → Option Run → List Former
remembers t None = []
remembers t (Some r) = record { term = t; run = r } ∷ []

-- one of the former processes does something: v is the world if what it writes counts
abbrev pub late : Rules → World → Action → List Former → Former → List Former → World
late R w a before f after =
    let v = act R f.term (record w { run = Some f.run }) f.run a in
    let all = before ++ (remembers f.term v.run ++ after) in
    if may_write R w f.term a then record v { run = w.run; former = all }
    else record w { former = all }

abbrev pub does_late : Rules → World → Action → ℕ → List Former → List Former → World
does_late R w a k before [] = w
does_late R w a zero before (f ∷ fs) = late R w a before f fs
does_late R w a (suc k) before (f ∷ fs) = does_late R w a k (before ++ f ∷ []) fs

abbrev pub killed : ℕ → World → Option Run → World
killed n w None = w
killed n w (Some r) = record w {
  journal = w.journal ++ take n r.queue;
  loose = w.loose + length (take n r.queue);
  run = None;
}

-- the points of all requests
abbrev pub sent : List Request → List Accepted
sent [] = []
sent (q ∷ qs) = q.points ++ sent qs

-- a fresh book that knows these points is given posts, one after another
abbrev pub readmit : List Accepted → List Accepted → List Batch → List Accepted
readmit known pending [] = pending
readmit known pending (p ∷ ps) =
    if is_in_order (known ++ pending) p.sender p.points
    then readmit known (pending ++ bare_points p) ps else readmit known pending ps

-- posts in the order in which a start gives them to the books
abbrev pub replay_order : Rules → List (List ℕ) → List Batch → List Batch
replay_order R held ps =
    if R.in_order then free_posts held ps ++ held_posts held ps else reverse ps

abbrev pub fresh : Rules → World → List Accepted → Run
fresh R w known = record {
  known = known;
  pending = readmit known [] (replay_order R w.quarantined (unsent w w.journal));
  held = w.quarantined;
  queue = [];
  unplaced = [];
  checkpoint = None;
}

abbrev pub seen_of : World → Seen
seen_of w = record {
  journal = w.journal;
  first = w.first;
  kept = w.kept;
  requests = w.requests;
}

-- the disk as it was read early, if it was
abbrev pub read_early : World → Option Seen → World
read_early w None = w
read_early w (Some s) = record w {
  journal = s.journal;
  first = s.first;
  kept = s.kept;
  requests = s.requests;
}

abbrev pub disk : Rules → World → World
disk R w = if R.read_behind then w else read_early w w.seen

-- how many posts count as in groups: more, if the numbers of deleted ones are given again
abbrev pub first_of : Rules → World → ℕ
first_of R w =
    if R.numbered || not (w.deleted == length w.journal) then w.first else w.first + w.deleted

abbrev pub started : Rules → World → World
started R w = record w {
  term = suc w.term;
  loose = if R.synced then 0 else w.loose;
  first = first_of R w;
  run = Some (fresh R (disk R w) (if R.primed then sent (disk R w).requests else []));
  former = remembers w.term w.run ++ w.former;
}

abbrev pub happens : Rules → World → Event → World
happens R w (Do a) = does R w a w.run
happens R w (Late k a) = does_late R w a k [] w.former
happens R w (Kill n) = killed n w w.run
happens R w LosePower = record w {
  journal = take (length w.journal - w.loose) w.journal;
  loose = 0;
  run = None;
}
happens R w Look = record w { seen = Some (seen_of w) }
happens R w Start = started R w

-- the world behind events, from an empty folder on
abbrev pub all_behind : Rules → World → List Event → World
all_behind R w [] = w
all_behind R w (e ∷ es) = all_behind R (happens R w e) es

abbrev pub empty : World
empty = record {
  term = 0;
  journal = [];
  loose = 0;
  deleted = 0;
  first = 0;
  kept = [];
  requests = [];
  quarantined = [];
  sink = [];
  seen = None;
  run = None;
  former = [];
  told = [];
}

abbrev pub behind : Rules → List Event → World
behind R es = all_behind R empty es
