-- A life of several rounds that was cut off, and a fresh history that is to go on in its place.
use Rattle.std.specs.Prelude.{◌≡◌, ℕ, ◌+◌, ◌*◌, ◌≤◌, Bool, true, false, List, [], ◌∷◌, ◌++◌}
use Rattle.std.specs.Prelude.{map, filter, length}
use Rattle.std.specs.List.{list_any}
use Rattle.series_id.specs.Identity.{Identity}
use Rattle.metric_events.specs.DataPoint.{DataPoint}
use Rattle.metric_events.specs.Rows.{fits}
use Rattle.metric_events.specs.History.{History, Opened, ◌▸◌, entries}
use Rattle.metric_events.specs.Points.{points, points_after, is_home, taken, landed}
use Rattle.metric_events.specs.Running.{held_senders}
use Rattle.metric_events.specs.Senders.{same_sender, are_once}
use Rattle.metric_events.specs.Series.{is_of, owner, frontier, sum_of, series_count}
use Rattle.metric_events.specs.Standing.{sum_where}
use Rattle.metric_events.specs.Legal.{is_held}
use Rattle.metric_events.specs.Recovery.{IsAtRest, Numbered, AreBatches, all_points}
use Rattle.metric_events.specs.Recovery.{bare_points, is_not_home}
use Rattle.metric_events.specs.Congruence.{home_hull}
use Rattle.metric_events.specs.declared.limits.TheConstants.{MAX_SERIES, MAX_HELD, MAX_ENTRIES}
use Rattle.metric_events.specs.declared.accepted.Accepted.{Accepted}
use Rattle.metric_events.specs.declared.batch.Batch.{Batch}
use Rattle.metric_events.specs.declared.place.Place.TheVariants.{Home, Acknowledged, Dropped}
use Rattle.metric_events.specs.declared.event.Event.TheVariants.{Take, Settle, Drop, GiveBack}

-- where the flushes of G move points that none of its events undoes
abbrev pub moved : History → List Accepted → List Accepted
moved (Opened O) qs = qs
moved (G ▸ Take f series) qs = map (taken f series) (moved G qs)
moved (G ▸ Settle f) qs = map (landed f Acknowledged) (moved G qs)
moved (G ▸ Drop f) qs = map (landed f Dropped) (moved G qs)
moved (G ▸ GiveBack f) qs = map (landed f Home) (moved G qs)
moved (G ▸ e) qs = moved G qs

-- the points of the batches of G, each where the events of G left it
abbrev pub news : History → List Accepted
news (Opened O) = []
news (G ▸ e) = points_after e (news G)

-- these points and those of the rounds after them, each where the last round left it: no round is
-- closed, so no point becomes one with others
abbrev pub unfolded : List Accepted → List History → List Accepted
unfolded qs [] = qs
unfolded qs (G ∷ Gs) = unfolded (moved G qs ++ news G) Gs

-- of these points those of a sender
abbrev pub sent_by : List ℕ → List Accepted → List Accepted
sent_by s qs = filter (λ a. same_sender a.sender s) qs

-- these are the same points, in an order that is the same within each sender's
pub record KeepsSenders (qs rs : List Accepted) : Type 0 where
  pub each : (s : List ℕ) → sent_by s rs ≡ sent_by s qs

-- the points of these posts, each as of no batch
abbrev pub posted : List Batch → List Accepted
posted [] = []
posted (p ∷ ps) = bare_points p ++ posted ps

-- the posts of these batches, without their numbers
abbrev pub bodies : List Numbered → List Batch
bodies [] = []
bodies (n ∷ ns) = n.body ∷ bodies ns

-- of these posts those of a sender
abbrev pub posts_by : List ℕ → List Batch → List Batch
posts_by s ps = filter (λ p. same_sender p.sender s) ps

-- these are the same posts, in an order that is the same for each sender
pub record KeepsPosts (ps rs : List Batch) : Type 0 where
  pub each : (s : List ℕ) → posts_by s rs ≡ posts_by s ps

-- what a post has of the series of one book, if it has any; and of each of these posts that
abbrev pub part : (Identity → Bool) → Batch → Batch
part is_own p = record { sender = p.sender; points = filter (λ d. is_own d.series) p.points }

abbrev pub has_points : List DataPoint → Bool
has_points [] = false
has_points (d ∷ ds) = true

abbrev pub parts : (Identity → Bool) → List Batch → List Batch
parts is_own ps = filter (λ p. has_points p.points) (map (part is_own) ps)

-- F knows of each series what these points say that are not pending
pub record Recalls (F : History) (qs : List Accepted) : Type 0 where
  pub known :
      (x : Identity) → list_any (is_of x) (points F) ≡ list_any (is_of x) (filter is_not_home qs)
  pub owners : (x : Identity) → owner x (points F) ≡ owner x (filter is_not_home qs)
  pub frontiers : (x : Identity) → frontier x (points F) ≡ frontier x (filter is_not_home qs)

-- F is at rest, and has room for these batches, and for these senders, which are those that are
-- quarantined after E, in whatever order; no sum passes a limit
pub record HasPlace (E F : History) (ns : List Numbered) (ss : List (List ℕ)) : Type 0 where
  pub rest : IsAtRest F
  pub batches : AreBatches F ns
  pub small : (x : Identity) → fits x.kind (sum_of x (points F ++ all_points ns)) ≡ true
  pub once : are_once ss ≡ true
  pub held : (s : List ℕ) → is_held s ss ≡ is_held s (held_senders E)
  pub room : entries F + 2 * length ns + 2 * length ss ≤ MAX_ENTRIES

-- of a series F knows what these points say of it that are not pending
pub record KnowsOf (x : Identity) (F : History) (qs : List Accepted) : Type 0 where
  pub known : list_any (is_of x) (points F) ≡ list_any (is_of x) (filter is_not_home qs)
  pub owner : owner x (points F) ≡ owner x (filter is_not_home qs)
  pub frontier : frontier x (points F) ≡ frontier x (filter is_not_home qs)

-- F is at rest, and has room for these batches, of whatever histories, and for these senders; there
-- are not too many series, and no sum passes a limit
pub record HasPlaceFor (F : History) (ns : List Numbered) (ss : List (List ℕ)) : Type 0 where
  pub rest : IsAtRest F
  pub batches : AreBatches F ns
  pub few_series : series_count (points F ++ all_points ns) ≤ MAX_SERIES
  pub small : (x : Identity) → fits x.kind (sum_of x (points F ++ all_points ns)) ≡ true
  pub once : are_once ss ≡ true
  pub few_held : length ss ≤ MAX_HELD
  pub room : entries F + 2 * length ns + 2 * length ss ≤ MAX_ENTRIES

-- a series stands in F as in E
pub record StandsIn (x : Identity) (E F : History) : Type 0 where
  pub owner : owner x (points F) ≡ owner x (points E)
  pub frontier : frontier x (points F) ≡ frontier x (points E)
  pub sum : sum_where is_home x (points F) ≡ sum_where is_home x (points E)
  pub span : home_hull x F ≡ home_hull x E
