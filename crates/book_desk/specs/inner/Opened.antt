-- What is open of a part while the other books are asked.
use Rattle.std.specs.Prelude.{◌≡◌, ℕ, ◌+◌, Option, Some, None, ◌<◌, length, Bool, true, false}
use Rattle.delta_book.specs.Journal.{Journal, Appends, EndsWithAdmit, history, admits}
use Rattle.delta_book.specs.Refusals.{confirm_refusal}
use Rattle.metric_events.specs.declared.batch.Batch.{Batch}
use Rattle.metric_events.specs.declared.event.Event.TheVariants as event
use Rattle.book_desk.specs.declared.part.Part.{Part}

-- a part has points
abbrev pub HasPoints : Option Part → Type 0
HasPoints None = Unit {0}
HasPoints (Some part) = 0 < length part.body.points

-- a book's part is open, or there is none
abbrev pub IsOpened : (old new : Journal) → Option Part → Option ℕ → Type 0
IsOpened old new None None = new ≡ old
IsOpened old new (Some part) (Some n) =
    (n ≡ admits (history old) + 1) × Appends old new 0 (event.Admit n part.body)
IsOpened old new part n = ⊥

-- what is open can be confirmed, and taken back
abbrev pub CanEnd : Journal → Option ℕ → Type 0
CanEnd now None = Unit {0}
CanEnd now (Some n) = (confirm_refusal (history now) n ≡ None) × EndsWithAdmit now n

-- what is open is ended: kept, or taken back, and then the book is as it was before
abbrev pub IsEnded : (old new : Journal) → Option ℕ → Bool → Type 0
IsEnded old new None keep = new ≡ old
IsEnded old new (Some n) true = Appends old new 0 (event.Confirm n)
IsEnded old new (Some n) false =
    (before : Journal) (seat : ℕ) (body : Batch) → Appends before old seat (event.Admit n body)
    → new ≡ before
