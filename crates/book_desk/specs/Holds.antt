-- What a quarantine of many books does to each.
use Rattle.std.specs.Prelude.{◌≡◌, ◌≢◌, ℕ, List, [], ◌∷◌, ◌⊎◌, Option, None, Some}
use Rattle.std.specs.Prelude.{Bool, false, ◌||◌}
use Rattle.delta_book.specs.Refusals.{lift_refusal, quarantine_refusal}
use Rattle.delta_book.specs.declared.faults.QuarantineFault.{QuarantineFault}
use Rattle.delta_book.specs.declared.faults.QuarantineFault.TheVariants.{NoMemory}
use Rattle.delta_book.specs.Journal.{Journal, Appends, history}
use Rattle.metric_events.specs.Legal.{is_held}
use Rattle.metric_events.specs.Running.{held_senders}
use Rattle.metric_events.specs.Strike.{CanBeStruck}
use Rattle.metric_events.specs.declared.event.Event.TheVariants as event
use Rattle.book_desk.specs.Posts.{then_two}

-- the sender is quarantined
abbrev pub Holds : List ℕ → (old new : Journal) → Type 0
Holds sender old new = Appends old new 0 (event.Quarantine sender)

-- it was quarantined and released, and the law of reversals strikes both
pub record IsLifted (sender : List ℕ) (old new : Journal) : Type 0 where
  pub two : new ≡ then_two old (event.Quarantine sender) (event.Lift sender)
  pub struck : CanBeStruck (history new)

-- a book is as it was, or as if the sender had never been quarantined
abbrev pub RestsFrom : List ℕ → (old new : Journal) → Type 0
RestsFrom sender old new = (new ≡ old) ⊎ IsLifted sender old new

-- the sender is released, as if it had never been quarantined
pub record IsReleased (sender : List ℕ) (old new : Journal) : Type 0 where
  pub none : lift_refusal (history old) sender ≡ None
  pub entry : Appends old new 0 (event.Lift sender)
  pub struck : CanBeStruck (history new)

-- or it was not quarantined, and nothing changes
abbrev pub Releases : List ℕ → (old new : Journal) → Type 0
Releases sender old new =
    ((lift_refusal (history old) sender ≢ None) × (new ≡ old)) ⊎ IsReleased sender old new

-- the sender is quarantined in one of the books
unfoldable pub is_held_in : List Journal → List ℕ → Bool
is_held_in [] sender = false
is_held_in (book ∷ books) sender =
    is_held sender (held_senders (history book)) || is_held_in books sender

-- the first of two refusals
abbrev pub first_hold : Option QuarantineFault → Option QuarantineFault → Option QuarantineFault
first_hold None other = other
first_hold (Some fault) other = Some fault

-- why a sender is not quarantined in all books: what the first book says that refuses
unfoldable pub hold_refusal : List Journal → List ℕ → Option QuarantineFault
hold_refusal [] sender = None
hold_refusal (book ∷ books) sender =
    first_hold (quarantine_refusal (history book) sender) (hold_refusal books sender)

-- memory ran out, or that is the refusal
abbrev pub HoldFails : QuarantineFault → Option QuarantineFault → Type 0
HoldFails fault refusal = (fault ≡ NoMemory) ⊎ (refusal ≡ Some fault)
