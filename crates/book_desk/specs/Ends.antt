-- What the end of flushes does to each book.
use Rattle.std.specs.Prelude.{◌≡◌, ◌≢◌, ℕ, ◌⊎◌, Option, Some, None, Bool, true, false, ◌&&◌}
use Rattle.std.specs.Prelude.{List, [], ◌∷◌, length, Result, Err}
use Rattle.series_id.specs.Identity.{Identity}
use Rattle.metric_events.specs.Settled.{SendsBefore, is_settled_in, is_taken_before}
use Rattle.metric_events.specs.Running.{live_flushes}
use Rattle.metric_events.specs.Legal.{is_live}
use Rattle.metric_events.specs.Strike.{CanBeStruck}
use Rattle.metric_events.specs.declared.event.Event.TheVariants as event
use Rattle.delta_book.specs.Journal.{Journal, Appends, history}
use Rattle.delta_book.specs.Refusals.{flush_refusal}
use Rattle.delta_book.specs.declared.flush.Flush.{Flush}
use Rattle.book_desk.specs.declared.desk.EndFault.{EndFault}
use Rattle.book_desk.specs.declared.desk.EndFault.TheVariants as faults
use Rattle.book_desk.specs.declared.end.End.{End}
use Rattle.book_desk.specs.declared.end.End.TheVariants.{Settle, Drop, GiveBack}
use Rattle.book_desk.specs.Each.{Each}

-- the flush of a book is live, or there is none
abbrev pub is_flying : Journal → Option Flush → Bool
is_flying old None = true
is_flying old (Some flush) = is_live flush.number (live_flushes (history old))

-- the flushes of all books are
unfoldable pub are_live : List Journal → List (Option Flush) → Bool
are_live [] flushes = true
are_live (book ∷ books) [] = true
are_live (book ∷ books) (flush ∷ flushes) = is_flying book flush && are_live books flushes

-- what a settled flush sent of a series ends before what a later one sends begins
abbrev pub SendsInOrder : Journal → Type 0
SendsInOrder now =
    (f g : ℕ) (x : Identity) → is_taken_before (history now) f g ≡ true
    → is_settled_in (history now) f ≡ true → SendsBefore (history now) f g x

-- a flush was live, and is ended in this way
abbrev pub EndsAs : End → (old new : Journal) → ℕ → Type 0
EndsAs Settle old new n = Appends old new 0 (event.Settle n) × SendsInOrder new
EndsAs Drop old new n = Appends old new 0 (event.Drop n)
EndsAs GiveBack old new n = Appends old new 0 (event.GiveBack n) × CanBeStruck (history new)

-- the flush of a book was live, and is ended in this way. A book without a flush is as it was
abbrev pub IsEndedBy : End → (old new : Journal) → Option Flush → Type 0
IsEndedBy end old new None = new ≡ old
IsEndedBy end old new (Some flush) =
    (flush_refusal (history old) flush.number ≡ None) × EndsAs end old new flush.number

-- the flush of a book is not live, and nothing changes
abbrev pub IsStale : (old new : Journal) → Option Flush → Type 0
IsStale old new None = ⊥
IsStale old new (Some flush) =
    (flush_refusal (history old) flush.number ≢ None) × (new ≡ old)

-- one or the other
abbrev pub MayEndBy : End → (old new : Journal) → Option Flush → Type 0
MayEndBy end old new flush = IsEndedBy end old new flush ⊎ IsStale old new flush

-- flushes are not all ended: there are none of so many books, and nothing changes; or some are not
-- live, and the others are ended
abbrev pub IsNotEnded : End → (old new : List Journal) → List (Option Flush) → EndFault → Type 0
IsNotEnded end old new flushes faults.Nothing = (length flushes ≢ length old) × (new ≡ old)
IsNotEnded end old new flushes faults.NotLive =
    Each (MayEndBy end) old new flushes × (are_live old flushes ≡ false)

-- after that there are no flushes left, but where they were not of so many books
abbrev pub AreLeft : Result (Unit {0}) EndFault → (old new : List (Option Flush)) → Type 0
AreLeft (Err faults.Nothing) old new = new ≡ old
AreLeft result old new = new ≡ []
