-- What the books of the machine are of a history.
use Rattle.std.specs.Prelude.{◌≡◌, ◌⊎◌, ℕ, Bool, true, false, ◌&&◌, List, [], ◌∷◌, ◌++◌, map}
use Rattle.std.specs.Prelude.{filter, None}
use Rattle.std.specs.List.{list_any, AllByRecursion}
use Rattle.series_id.specs.Identity.{Identity}
use Rattle.metric_events.specs.declared.opened_series.OpenedSeries.{OpenedSeries}
use Rattle.metric_events.specs.declared.opening.Opening.{Opening}
use Rattle.metric_events.specs.History.{History, ◌▸◌}
use Rattle.metric_events.specs.Points.{points, is_among, is_home, is_in_flight}
use Rattle.metric_events.specs.Running.{held_senders, is_other_flight, live_flushes}
use Rattle.metric_events.specs.Series.{is_of, owner, frontier, sum_of}
use Rattle.metric_events.specs.Standing.{nothing_of, sum_where}
use Rattle.metric_events.specs.Legal.{MayTake, is_held, is_live}
use Rattle.metric_events.specs.Priming.{Known, all_known}
use Rattle.metric_events.specs.declared.accepted.Accepted.{Accepted}
use Rattle.metric_events.specs.declared.flight.Flight.{Flight}
use Rattle.metric_events.specs.declared.place.Place.{Place}
use Rattle.metric_events.specs.declared.event.Event.TheVariants.{Take, GiveBack}
use Rattle.service_law.specs.Machine.{Run, book, group_of}

-- a process's books know the same series as a history, with the same owners and frontiers, and have
-- the same sums pending; the same senders are quarantined
pub record Knows (E : History) (r : Run) : Type 0 where
  pub any : (x : Identity) → list_any (is_of x) (book r) ≡ list_any (is_of x) (points E)
  pub owners : (x : Identity) → owner x (book r) ≡ owner x (points E)
  pub frontiers : (x : Identity) → frontier x (book r) ≡ frontier x (points E)
  pub sums : (x : Identity) → sum_of x r.pending ≡ sum_where is_home x (points E)
  pub held : (s : List ℕ) → is_held s r.held ≡ is_held s (held_senders E)

-- a flush of these series leaves nothing pending but of quarantined senders
pub record TakesAll (E : History) (series : List Identity) : Type 0 where
  pub each :
      (x : Identity) → is_among x series ≡ false
      → (is_held (owner x (points E)) (held_senders E) ≡ true)
      ⊎ (sum_where is_home x (points E) ≡ nothing_of x)

-- E, and then each of these flushes taken
abbrev pub taking : History → List Flight → History
taking E [] = E
taking E (l ∷ ls) = taking (E ▸ Take l.number l.series) ls

-- each may be taken then
abbrev pub MayTakeAll : History → List Flight → Type 0
MayTakeAll E [] = Unit {0}
MayTakeAll E (l ∷ ls) =
    MayTake E l.number l.series × MayTakeAll (E ▸ Take l.number l.series) ls

-- the series that they take, and their numbers
abbrev pub series_of_all : List Flight → List Identity
series_of_all [] = []
series_of_all (l ∷ ls) = l.series ++ series_of_all ls

abbrev pub flush_numbers : List Flight → List ℕ
flush_numbers ls = map (λ (l : Flight). l.number) ls

-- E, and then each of these flushes given back
abbrev pub giving_back : History → List ℕ → History
giving_back E [] = E
giving_back E (f ∷ fs) = giving_back (E ▸ GiveBack f) fs

-- each of these flushes is live, also where those before it are not any more
abbrev pub are_live : List ℕ → List Flight → Bool
are_live [] live = true
are_live (f ∷ fs) live = is_live f live && are_live fs (filter (is_other_flight f) live)

-- in flight with one of these flushes
abbrev pub is_in_one : List ℕ → Place → Bool
is_in_one fs place = list_any (λ f. is_in_flight f place) fs

-- what a checkpoint took of the books is what is in flight with these flushes, which are live
pub record Flies (E : History) (fs : List ℕ) (r : Run) : Type 0 where
  pub live : are_live fs (live_flushes E) ≡ true
  pub sums :
      (x : Identity) → sum_of x (group_of r.checkpoint) ≡ sum_where (is_in_one fs) x (points E)

-- fresh books that know these points, before they get a post
abbrev pub fresh_books : List Accepted → Run
fresh_books known = record {
  known = known;
  pending = [];
  held = [];
  queue = [];
  unplaced = [];
  checkpoint = None;
}

-- of a series this owner and this frontier are those of these points
pub record Says (known : List Accepted) (k : Known) : Type 0 where
  pub owned : k.owner ≡ owner k.series known
  pub ends : k.frontier ≡ frontier k.series known

-- these are the series of these points, and so it is with each
pub record Spells (ks : List Known) (known : List Accepted) : Type 0 where
  pub any : (x : Identity) → is_among x (all_known ks) ≡ list_any (is_of x) known
  pub each : AllByRecursion (Says known) ks

-- what an opening says of a series
abbrev pub said : OpenedSeries → Known
said s = record { series = s.series; owner = s.owner; frontier = s.frontier }

-- an opening says so of these series, and that nothing is pending or quarantined
pub record Opens (O : Opening) (known : List Accepted) : Type 0 where
  pub spells : Spells (map said O.series) known
  pub empty : AllByRecursion (λ (s : OpenedSeries). s.home_span ≡ None) O.series
  pub held : O.held ≡ []
