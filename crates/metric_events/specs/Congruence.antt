-- Two histories that stand alike: whatever may come after one may come after the other, and goes
-- the same way there.
use Rattle.std.specs.Prelude.{◌≡◌, ℕ, ◌+◌, ◌*◌, ◌≤◌, true, false, List, [], ◌∷◌, ◌++◌, map}
use Rattle.std.specs.Prelude.{filter, length, Option}
use Rattle.series_id.specs.Identity.{Identity}
use Rattle.metric_events.specs.Interval.{Interval}
use Rattle.metric_events.specs.History.{History, Opened, ◌▸◌, ◌then◌, entries, IsNewBatch}
use Rattle.metric_events.specs.History.{IsNewFlush}
use Rattle.metric_events.specs.Points.{points, is_home}
use Rattle.metric_events.specs.Running.{live_flushes, open_batches, held_senders}
use Rattle.metric_events.specs.Series.{of_series, owner, frontier, hull, merged, series_count}
use Rattle.metric_events.specs.Series.{sum_of}
use Rattle.metric_events.specs.Legal.{IsLegal, HasRoom, is_held, is_too_large}
use Rattle.metric_events.specs.Choice.{pick, flush_points, is_cargo}
use Rattle.metric_events.specs.Standing.{stands, sum_where}
use Rattle.metric_events.specs.Strike.{is_taken_in}
use Rattle.metric_events.specs.Lasting.{renumbered, renumbered_flight, numbers, batch_number}
use Rattle.metric_events.specs.Lasting.{flush_number, is_one_of, KeepsApart}
use Rattle.metric_events.specs.Close.{close}
use Rattle.metric_events.specs.Rows.{fits}
use Rattle.metric_events.specs.Senders.{are_once}
use Rattle.metric_events.specs.Recovery.{IsAtRest, Numbered, AreBatches, all_points}
use Rattle.metric_events.specs.Recovery.{are_in_turn, IsAtMost, not_pending}
use Rattle.metric_events.specs.declared.limits.TheConstants.{MAX_SERIES, MAX_HELD, MAX_ENTRIES}
use Rattle.metric_events.specs.declared.accepted.Accepted.{Accepted}
use Rattle.metric_events.specs.declared.event.Event.{Event}
use Rattle.metric_events.specs.declared.event.Event.TheVariants.{Admit, Undo, Confirm, Take}
use Rattle.metric_events.specs.declared.event.Event.TheVariants.{Quarantine}

-- the covering span of what is pending of a series
abbrev pub home_hull : Identity → History → Option Interval
home_hull x E = hull (filter (stands is_home) (of_series x (points E)))

-- each series has the same owner and frontier, and the same sum and covering span of what is
-- pending; the same senders are quarantined, in whatever order
pub record StandAlike (E F : History) : Type 0 where
  pub owners : (x : Identity) → owner x (points F) ≡ owner x (points E)
  pub frontiers : (x : Identity) → frontier x (points F) ≡ frontier x (points E)
  pub sums : (x : Identity) → sum_where is_home x (points F) ≡ sum_where is_home x (points E)
  pub spans : (x : Identity) → home_hull x F ≡ home_hull x E
  pub held : (s : List ℕ) → is_held s (held_senders F) ≡ is_held s (held_senders E)

-- no batch is open and no flush live
pub record IsCalm (E : History) : Type 0 where
  pub batches : open_batches E ≡ []
  pub live : live_flushes E ≡ []

-- the batches that G ends are new after E: it leaves alone what was open before
abbrev pub EndsOwn : History → History → Type 0
EndsOwn E (Opened O) = Unit {0}
EndsOwn E (G ▸ Undo b) = IsNewBatch b E × EndsOwn E G
EndsOwn E (G ▸ Confirm b) = IsNewBatch b E × EndsOwn E G
EndsOwn E (G ▸ e) = EndsOwn E G

-- what an event needs of a history beside what the state says: a new number, room, and sums within
-- their limits
abbrev pub Suits : History → Event → Type 0
Suits F (Admit b body) =
    IsNewBatch b F × HasRoom F × (is_too_large (points (F ▸ Admit b body)) body.points ≡ false)
Suits F (Take f series) = IsNewFlush f F × HasRoom F
Suits F (Quarantine s) = HasRoom F
Suits F e = Unit {0}

-- and so it is at each event of G
abbrev pub AllSuit : History → History → Type 0
AllSuit F (Opened O) = Unit {0}
AllSuit F (G ▸ e) = AllSuit F G × Suits (F then G) e

-- after G they still stand alike; each flush of G has the same points of each series in flight, as
-- one; the same flushes are live; the same series are picked, for every size; and each flush that G
-- takes sends the same points
pub record StandOn (E F G : History) (batch flush : ℕ → ℕ) : Type 0 where
  pub alike : StandAlike (E then G) (F then renumbered batch flush G)
  pub flying :
      (f : ℕ) (x : Identity) → is_one_of f (numbers flush_number G) ≡ true
      → merged x (filter (is_cargo (flush f) x) (points (F then renumbered batch flush G)))
      ≡ merged x (filter (is_cargo f x) (points (E then G)))
  pub live :
      live_flushes (F then renumbered batch flush G)
      ≡ map (renumbered_flight flush) (live_flushes (E then G))
  pub choice : (max : ℕ) → pick (F then renumbered batch flush G) max ≡ pick (E then G) max
  pub sent :
      (f : ℕ) → is_taken_in G f ≡ true
      → flush_points (F then renumbered batch flush G) (flush f) ≡ flush_points (E then G) f

-- F, which is at rest, may go on with these batches, admitted and confirmed one after another, and
-- then with these senders quarantined: their points are in turn, nothing passes a limit, and there
-- is room
pub record MayReplay (F : History) (ns : List Numbered) (ss : List (List ℕ)) : Type 0 where
  pub rest : IsAtRest F
  pub batches : AreBatches F ns
  pub turn : are_in_turn (points F) (all_points ns) ≡ true
  pub few_series : series_count (points F ++ all_points ns) ≤ MAX_SERIES
  pub small : (x : Identity) → fits x.kind (sum_of x (points F ++ all_points ns)) ≡ true
  pub once : are_once ss ≡ true
  pub few_held : length ss ≤ MAX_HELD
  pub room : entries F + 2 * length ns + 2 * length ss ≤ MAX_ENTRIES

-- what F and these batches say of each series is what E says, and these senders are those of E, in
-- whatever order
pub record Repeats (E F : History) (ns : List Numbered) (ss : List (List ℕ)) : Type 0 where
  pub owners : (x : Identity) → owner x (points F ++ all_points ns) ≡ owner x (points E)
  pub frontiers : (x : Identity) → frontier x (points F ++ all_points ns) ≡ frontier x (points E)
  pub sums : (x : Identity) → sum_of x (all_points ns) ≡ sum_where is_home x (points E)
  pub spans : (x : Identity) → hull (of_series x (all_points ns)) ≡ home_hull x E
  pub held : (s : List ℕ) → is_held s ss ≡ is_held s (held_senders E)

-- these are the same points, in an order that is the same within each series
pub record AreInterleaved (qs rs : List Accepted) : Type 0 where
  pub each : (x : Identity) → of_series x rs ≡ of_series x qs

-- the sums of F are no greater than those of E without what is pending, and F has room for these
-- batches and senders
pub record LeavesRoom (F E : History) (ns : List Numbered) (ss : List (List ℕ)) : Type 0 where
  pub sums : (x : Identity) → IsAtMost (sum_of x (points F)) (sum_of x (not_pending E))
  pub once : are_once ss ≡ true
  pub room : entries F + 2 * length ns + 2 * length ss ≤ MAX_ENTRIES

-- E, and then one round after another, each closed
abbrev pub lived : History → List History → History
lived E [] = E
lived E (G ∷ Gs) = lived (Opened (close (E then G))) Gs

-- each of these rounds is legal, and ends calmly
abbrev pub AreRounds : History → List History → Type 0
AreRounds E [] = Unit {0}
AreRounds E (G ∷ Gs) =
    IsLegal (E then G) × IsCalm (E then G) × AreRounds (Opened (close (E then G))) Gs

-- the events of each suit F, and no two numbers of one become one
abbrev pub RoundsSuit : (ℕ → ℕ) → (ℕ → ℕ) → History → List History → Type 0
RoundsSuit batch flush F [] = Unit {0}
RoundsSuit batch flush F (G ∷ Gs) =
    AllSuit F (renumbered batch flush G) × KeepsApart batch (numbers batch_number G)
    × KeepsApart flush (numbers flush_number G)
    × RoundsSuit batch flush (Opened (close (F then renumbered batch flush G))) Gs

-- each batch and each flush of G has a number that is new after F
abbrev pub AreNew : History → History → Type 0
AreNew F (Opened O) = Unit {0}
AreNew F (G ▸ Admit b body) = IsNewBatch b (F then G) × AreNew F G
AreNew F (G ▸ Take f series) = IsNewFlush f (F then G) × AreNew F G
AreNew F (G ▸ e) = AreNew F G

-- F has no more events, and no greater sums
pub record IsLighter (F E : History) : Type 0 where
  pub entries : entries F ≤ entries E
  pub sums : (x : Identity) → IsAtMost (sum_of x (points F)) (sum_of x (points E))
