-- The same events after two histories that are alike, on each side under numbers of its own.
use Rattle.std.specs.Prelude.{◌≡◌, ℕ, ◌==◌, Bool, true, List, [], ◌∷◌, ◌++◌}
use Rattle.std.specs.List.{list_any}
use Rattle.metric_events.specs.History.{History, Opened, ◌▸◌}
use Rattle.metric_events.specs.declared.flight.Flight.{Flight}
use Rattle.metric_events.specs.declared.event.Event.{Event}
use Rattle.metric_events.specs.declared.event.Event.TheVariants.{Admit, Undo, Confirm, Take, Settle}
use Rattle.metric_events.specs.declared.event.Event.TheVariants.{Drop, GiveBack, Quarantine, Lift}

-- the event with its batch and its flush numbered another way
abbrev pub renumbered_event : (ℕ → ℕ) → (ℕ → ℕ) → Event → Event
renumbered_event batch flush (Admit b body) = Admit (batch b) body
renumbered_event batch flush (Undo b) = Undo (batch b)
renumbered_event batch flush (Confirm b) = Confirm (batch b)
renumbered_event batch flush (Take f series) = Take (flush f) series
renumbered_event batch flush (Settle f) = Settle (flush f)
renumbered_event batch flush (Drop f) = Drop (flush f)
renumbered_event batch flush (GiveBack f) = GiveBack (flush f)
renumbered_event batch flush (Quarantine s) = Quarantine s
renumbered_event batch flush (Lift s) = Lift s

-- and so each event of G
abbrev pub renumbered : (ℕ → ℕ) → (ℕ → ℕ) → History → History
renumbered batch flush (Opened O) = Opened O
renumbered batch flush (G ▸ e) = renumbered batch flush G ▸ renumbered_event batch flush e

-- the number of an event's batch, and of its flush, if it has one
abbrev pub batch_number : Event → List ℕ
batch_number (Admit b body) = b ∷ []
batch_number (Undo b) = b ∷ []
batch_number (Confirm b) = b ∷ []
batch_number e = []

abbrev pub flush_number : Event → List ℕ
flush_number (Take f series) = f ∷ []
flush_number (Settle f) = f ∷ []
flush_number (Drop f) = f ∷ []
flush_number (GiveBack f) = f ∷ []
flush_number e = []

-- those of all events
abbrev pub numbers : (Event → List ℕ) → History → List ℕ
numbers of (Opened O) = []
numbers of (G ▸ e) = of e ++ numbers of G

-- n is one of these numbers
abbrev pub is_one_of : ℕ → List ℕ → Bool
is_one_of n ns = list_any (λ m. m == n) ns

-- no two of these numbers become one
pub record KeepsApart (to : ℕ → ℕ) (ns : List ℕ) : Type 0 where
  pub all :
      (m n : ℕ) → is_one_of m ns ≡ true → is_one_of n ns ≡ true → to m ≡ to n → m ≡ n

-- a live flush with its number changed
abbrev pub renumbered_flight : (ℕ → ℕ) → Flight → Flight
renumbered_flight flush l = record { number = flush l.number; series = l.series }
