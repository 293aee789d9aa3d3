-- A history that was cut off, and a fresh one that is to go on in its place.
use Rattle.std.specs.Prelude.{◌≡◌, ℕ, ◌<◌, ◌≤◌, Bool, true, not, ◌&&◌, List, [], ◌∷◌}
use Rattle.std.specs.Prelude.{◌++◌, filter, map, length}
use Rattle.std.specs.List.{list_all, All}
use Rattle.series_id.specs.Identity.{Identity}
use Rattle.metric_events.specs.DataPoint.{IsPoint}
use Rattle.metric_events.specs.History.{History, Opened, ◌▸◌, IsNewBatch}
use Rattle.metric_events.specs.Points.{points, is_home, admitted}
use Rattle.metric_events.specs.Running.{open_batches, live_flushes, held_senders}
use Rattle.metric_events.specs.Series.{owner, frontier}
use Rattle.metric_events.specs.Legal.{HasRoom, is_clear}
use Rattle.metric_events.specs.Standing.{stands}
use Rattle.metric_events.specs.declared.limits.TheConstants.{MAX_OPEN}
use Rattle.metric_events.specs.declared.accepted.Accepted.{Accepted}
use Rattle.metric_events.specs.declared.batch.Batch.{Batch}
use Rattle.metric_events.specs.declared.event.Event.TheVariants.{Admit, Undo, Confirm, Quarantine}
use Rattle.metric_events.specs.declared.event.Event.TheVariants.{Lift}

-- a point as pending and of no batch; the pending ones of these points, in order; and of a history
abbrev pub bare : Accepted → Accepted
bare a = admitted 0 a.sender a.point

abbrev pub homes : List Accepted → List Accepted
homes qs = map bare (filter (stands is_home) qs)

abbrev pub pending : History → List Accepted
pending E = homes (points E)

-- the points that are not pending
abbrev pub is_not_home : Accepted → Bool
is_not_home a = not (is_home a.place)

abbrev pub not_pending : History → List Accepted
not_pending E = filter is_not_home (points E)

-- nothing is pending, open, live or quarantined
pub record IsAtRest (E : History) : Type 0 where
  pub home : list_all is_not_home (points E) ≡ true
  pub batches : open_batches E ≡ []
  pub live : live_flushes E ≡ []
  pub held : held_senders E ≡ []

-- E has no live flush. F is at rest and knows of each series what the points of E say that are not
-- pending: the owner, and where it ends (none and 0, if there is no such point)
pub record Remembers (F E : History) : Type 0 where
  pub live : live_flushes E ≡ []
  pub rest : IsAtRest F
  pub owners : (x : Identity) → owner x (points F) ≡ owner x (not_pending E)
  pub frontiers : (x : Identity) → frontier x (points F) ≡ frontier x (not_pending E)

-- no flush is taken or ended; anything else may happen
abbrev pub FlushesNothing : History → Type 0
FlushesNothing (Opened O) = Unit {0}
FlushesNothing (S ▸ Admit b body) = FlushesNothing S
FlushesNothing (S ▸ Undo b) = FlushesNothing S
FlushesNothing (S ▸ Confirm b) = FlushesNothing S
FlushesNothing (S ▸ Quarantine s) = FlushesNothing S
FlushesNothing (S ▸ Lift s) = FlushesNothing S
FlushesNothing (S ▸ e) = ⊥

-- each point may come after those before it
abbrev pub are_in_turn : List Accepted → List Accepted → Bool
are_in_turn before [] = true
are_in_turn before (a ∷ qs) =
    list_all (λ q. is_clear a.sender a.point q.point q.sender) before
    && are_in_turn (before ++ a ∷ []) qs

-- what is pending may come after all the rest
abbrev pub IsInTurn : History → Type 0
IsInTurn E = are_in_turn (not_pending E) (pending E) ≡ true

-- the points of a batch, as if of no batch
abbrev pub bare_points : Batch → List Accepted
bare_points body = map (admitted 0 body.sender) body.points

-- a batch of points
pub record IsBatch (body : Batch) : Type 0 where
  pub some : 0 < length body.points
  pub made : All IsPoint body.points

-- what a batch needs of a history beside its order and the sums: a new number, and room
pub record HasSpace (E : History) (b : ℕ) : Type 0 where
  pub fresh : IsNewBatch b E
  pub few_open : length (open_batches E) < MAX_OPEN
  pub room : HasRoom E

-- a batch with its number
pub record Numbered : Type 0 where
  pub number : ℕ
  pub body : Batch

-- the points of these batches, in order
abbrev pub all_points : List Numbered → List Accepted
all_points [] = []
all_points (n ∷ ns) = bare_points n.body ++ all_points ns

-- F, then each of these batches admitted and confirmed, one after another
abbrev pub readmitted : History → List Numbered → History
readmitted F [] = F
readmitted F (n ∷ ns) = readmitted (F ▸ Admit n.number n.body ▸ Confirm n.number) ns

-- F, then each of these senders quarantined
abbrev pub quarantined : History → List (List ℕ) → History
quarantined F [] = F
quarantined F (s ∷ ss) = quarantined (F ▸ Quarantine s) ss

-- each is a batch of points, with a number that is new then
abbrev pub AreBatches : History → List Numbered → Type 0
AreBatches F [] = Unit {0}
AreBatches F (n ∷ ns) =
    IsBatch n.body × IsNewBatch n.number F
    × AreBatches (F ▸ Admit n.number n.body ▸ Confirm n.number) ns

-- each word of the row is at most that of the other
abbrev pub IsAtMost : List ℕ → List ℕ → Type 0
IsAtMost [] ys = Unit {0}
IsAtMost (x ∷ xs) [] = (x ≡ 0) × IsAtMost xs []
IsAtMost (x ∷ xs) (y ∷ ys) = (x ≤ y) × IsAtMost xs ys
