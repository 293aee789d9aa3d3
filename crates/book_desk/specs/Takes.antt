-- What a take over many books does to each.
use Rattle.std.specs.Prelude.{◌≡◌, ◌≢◌, ℕ, ◌+◌, ◌-◌, ◌==◌, Option, Some, None, ◌⊎◌, List, [], ◌∷◌}
use Rattle.std.specs.Prelude.{if◌then◌else◌, ◌<◌, ◌≤◌, length, get_or, set, replicate}
use Rattle.delta_book.specs.Journal.{Journal, history, takes}
use Rattle.delta_book.specs.Flushes.{IsTaken, take_refusal}
use Rattle.delta_book.specs.declared.faults.TakeFault.{TakeFault}
use Rattle.delta_book.specs.declared.faults.TakeFault.TheVariants.{NoMemory}
use Rattle.delta_book.specs.declared.flush.Flush.{Flush}
use Rattle.series_id.specs.Identity.{Identity}
use Rattle.metric_events.specs.Choice.{pick}
use Rattle.metric_events.specs.Strike.{CanBeStruck}
use Rattle.metric_events.specs.declared.event.Event.TheVariants as event
use Rattle.book_desk.specs.declared.desk.TakeAllFault.{TakeAllFault}
use Rattle.book_desk.specs.declared.desk.TakeAllFault.TheVariants as faults
use Rattle.book_desk.specs.Each.{EachBook}
use Rattle.book_desk.specs.Posts.{then_two}

-- there is nothing to take of a book, and it is as it was
abbrev pub HasNothing : ℕ → (old new : Journal) → Type 0
HasNothing max old new = (pick (history old) max ≡ []) × (new ≡ old)

-- a flush of the book was taken, or there is nothing to take
abbrev pub Takes : ℕ → (old new : Journal) → Option Flush → Type 0
Takes max old new None = HasNothing max old new
Takes max old new (Some flush) = IsTaken old new 0 max flush

-- a flush was taken and given back, and the law of reversals strikes both
pub record IsGivenBack (max : ℕ) (old new : Journal) : Type 0 where
  pub two : new ≡ then_two old (event.Take (takes (history old) + 1) (pick (history old) max))
      (event.GiveBack (takes (history old) + 1))
  pub struck : CanBeStruck (history new)

-- a book is as it was, or as if no flush had been taken
abbrev pub RestsTaken : ℕ → (old new : Journal) → Type 0
RestsTaken max old new = (new ≡ old) ⊎ IsGivenBack max old new

-- how many flushes there are
abbrev pub count : List (Option Flush) → ℕ
count [] = 0
count (None ∷ flushes) = count flushes
count (Some flush ∷ flushes) = 1 + count flushes

-- the i-th of them
abbrev pub nth : List (Option Flush) → ℕ → Option Flush
nth [] i = None
nth (None ∷ flushes) i = nth flushes i
nth (Some flush ∷ flushes) i = if i == 0 then Some flush else nth flushes (i - 1)

-- why a book refuses to give a flush: only where there is something to take
abbrev pub refusal_of : List Identity → Option TakeFault → Option TakeFault
refusal_of [] refusal = None
refusal_of (x ∷ xs) refusal = refusal

-- the first of two refusals
abbrev pub first_take : Option TakeFault → Option TakeFault → Option TakeFault
first_take None other = other
first_take (Some fault) other = Some fault

-- why flushes are not taken of all books: what the first book says that refuses
unfoldable pub take_all_refusal : List Journal → ℕ → Option TakeFault
take_all_refusal [] max = None
take_all_refusal (book ∷ books) max =
    first_take (refusal_of (pick (history book) max) (take_refusal (history book)))
    (take_all_refusal books max)

-- memory ran out, or that is the refusal
abbrev pub TakeFails : TakeFault → Option TakeFault → Type 0
TakeFails fault refusal = (fault ≡ NoMemory) ⊎ (refusal ≡ Some fault)

-- no flushes are taken: those before are not ended, or there is nothing to take, and nothing
-- changes; or it is refused, and each book is as it was, or as if no flush had been taken
abbrev pub IsNotTaken : ℕ → (old new : List Journal) → List (Option Flush) → TakeAllFault → Type 0
IsNotTaken max old new before faults.NotEnded = (before ≢ []) × (new ≡ old)
IsNotTaken max old new before faults.Nothing = EachBook (HasNothing max) old new
IsNotTaken max old new before (faults.Refused fault) =
    EachBook (RestsTaken max) old new × TakeFails fault (take_all_refusal old max)

-- why a flush is not taken of one book: those before are not ended, or there is nothing to take; or
-- it is refused
abbrev pub IsNotTakenOf : ℕ → Journal → TakeAllFault → Type 0
IsNotTakenOf max book faults.NotEnded = ⊥
IsNotTakenOf max book faults.Nothing = pick (history book) max ≡ []
IsNotTakenOf max book (faults.Refused fault) =
    TakeFails fault (refusal_of (pick (history book) max) (take_refusal (history book)))

-- a flush of the i-th book was taken, and no other: each other book is as it was
pub record IsTakenAlone (max i : ℕ) (old new : List Journal) (flushes : List (Option Flush)) :
    Type 0 where
  pub found : i < length old
  pub alone : (d : Journal) → new ≡ set old i (get_or new i d)
  pub taken : (d : Journal) → (flush : Flush)
      × IsTaken (get_or old i d) (get_or new i d) 0 max flush
      × (flushes ≡ set (replicate (length old) None) i (Some flush))

-- no flush is taken of the i-th book, and nothing changes: those before are not ended; or there is
-- no such book, or nothing to take of it; or it refuses
abbrev pub IsNotTakenAlone :
    (max i : ℕ) → (old new : List Journal) → List (Option Flush) → TakeAllFault → Type 0
IsNotTakenAlone max i old new before faults.NotEnded = (before ≢ []) × (new ≡ old)
IsNotTakenAlone max i old new before faults.Nothing =
    ((length old ≤ i) ⊎ ((d : Journal) → pick (history (get_or old i d)) max ≡ [])) × (new ≡ old)
IsNotTakenAlone max i old new before (faults.Refused fault) =
    ((d : Journal) → IsNotTakenOf max (get_or old i d) (faults.Refused fault)) × (new ≡ old)
