-- A history of whose flushes nothing is known: a kill came before what they sent was kept.
use Rattle.std.specs.Prelude.{◌≡◌, ℕ, Bool, false, List, [], ◌∷◌, ◌++◌, filter}
use Rattle.std.specs.Prelude.{if◌then◌else◌}
use Rattle.series_id.specs.Identity.{Identity}
use Rattle.metric_events.specs.History.{History, Start, Opened, ◌▸◌, ◌then◌}
use Rattle.metric_events.specs.Points.{points}
use Rattle.metric_events.specs.Running.{open_batches, live_flushes, held_senders}
use Rattle.metric_events.specs.Series.{owner, frontier}
use Rattle.metric_events.specs.Legal.{IsLegal, is_held}
use Rattle.metric_events.specs.Recovery.{homes, not_pending, is_not_home, Numbered, all_points}
use Rattle.metric_events.specs.Congruence.{AreRounds, lived}
use Rattle.metric_events.specs.Recall.{unfolded}
use Rattle.metric_events.specs.declared.event.Event.TheVariants.{Admit, Undo, Confirm, Take, Settle}
use Rattle.metric_events.specs.declared.event.Event.TheVariants.{Drop, GiveBack, Quarantine, Lift}

-- G without its flushes, those that ended and those that are live
abbrev pub unflushed : History → History
unflushed (Opened O) = Opened O
unflushed (G ▸ Take f series) = unflushed G
unflushed (G ▸ Settle f) = unflushed G
unflushed (G ▸ Drop f) = unflushed G
unflushed (G ▸ GiveBack f) = unflushed G
unflushed (G ▸ e) = unflushed G ▸ e

-- each series has the same owner and the same frontier, and the same senders are quarantined
pub record KnowAlike (E F : History) : Type 0 where
  pub owners : (x : Identity) → owner x (points F) ≡ owner x (points E)
  pub frontiers : (x : Identity) → frontier x (points F) ≡ frontier x (points E)
  pub held : (s : List ℕ) → is_held s (held_senders F) ≡ is_held s (held_senders E)

-- after F what came after E may come without its flushes. It then knows what E does, the same
-- batches are open, and what is not pending is what was not pending before
pub record IsUnflushed (E F G : History) : Type 0 where
  pub legal : IsLegal (F then unflushed G)
  pub know : KnowAlike (E then G) (F then unflushed G)
  pub batches : open_batches (F then unflushed G) ≡ open_batches (E then G)
  pub live : live_flushes (F then unflushed G) ≡ []
  pub rest : not_pending (F then unflushed G) ≡ not_pending F

-- what a journal has of G: no flush, and of the batches those that it has
abbrev pub kept : (ℕ → Bool) → History → History
kept has (Opened O) = Opened O
kept has (G ▸ Admit b body) = if has b then (kept has G ▸ Admit b body) else kept has G
kept has (G ▸ Confirm b) = if has b then (kept has G ▸ Confirm b) else kept has G
kept has (G ▸ Quarantine s) = kept has G ▸ Quarantine s
kept has (G ▸ Lift s) = kept has G ▸ Lift s
kept has (G ▸ e) = kept has G

-- E, and then each of these batches confirmed
abbrev pub confirmed : History → List ℕ → History
confirmed E [] = E
confirmed E (b ∷ bs) = confirmed (E ▸ Confirm b) bs

-- what the journal has of G, with each batch confirmed
abbrev pub survived : (ℕ → Bool) → History → History
survived has G = confirmed (kept has G) (open_batches (kept has G))

-- G undoes none of the batches that the journal has
abbrev pub UndoesNone : (ℕ → Bool) → History → Type 0
UndoesNone has (Opened O) = Unit {0}
UndoesNone has (G ▸ Undo b) = (has b ≡ false) × UndoesNone has G
UndoesNone has (G ▸ e) = UndoesNone has G

-- the batches of G that the journal has, in order
abbrev pub posts_in : (ℕ → Bool) → History → List Numbered
posts_in has (Opened O) = []
posts_in has (G ▸ Admit b body) =
    if has b then (posts_in has G ++ record { number = b; body = body } ∷ []) else posts_in has G
posts_in has (G ▸ e) = posts_in has G

-- a life of rounds ended with P and then Q. With what the journal has of Q in the place of Q it is
-- a life of rounds. It has sent what it had sent after P; what is pending is what was then, and the
-- posts of the journal; the same senders are quarantined
pub record Survives (has : ℕ → Bool) (Hs : List History) (P Q : History) : Type 0 where
  pub rounds : AreRounds Start (Hs ++ (P then survived has Q) ∷ [])
  pub sent :
      filter is_not_home (unfolded [] (Hs ++ (P then survived has Q) ∷ []))
      ≡ filter is_not_home (unfolded [] (Hs ++ P ∷ []))
  pub pending :
      homes (unfolded [] (Hs ++ (P then survived has Q) ∷ []))
      ≡ homes (unfolded [] (Hs ++ P ∷ [])) ++ all_points (posts_in has Q)
  pub held :
      held_senders (lived Start (Hs ++ (P then survived has Q) ∷ []))
      ≡ held_senders ((lived Start Hs then P) then Q)
