-- What is given back of a book where another one refuses.
use Rattle.std.specs.Prelude.{◌≡◌, Option, Some, None}
use Rattle.delta_book.specs.Journal.{Journal, Appends, history}
use Rattle.delta_book.specs.Refusals.{flush_refusal}
use Rattle.delta_book.specs.declared.flush.Flush.{Flush}
use Rattle.metric_events.specs.Strike.{CanBeStruck}
use Rattle.metric_events.specs.declared.event.Event.TheVariants as event

-- the flush is live
abbrev pub IsLive : Journal → Option Flush → Type 0
IsLive now None = Unit {0}
IsLive now (Some flush) = flush_refusal (history now) flush.number ≡ None

-- the flush was given back
abbrev pub IsReturned : (old new : Journal) → Option Flush → Type 0
IsReturned old new None = new ≡ old
IsReturned old new (Some flush) =
    Appends old new 0 (event.GiveBack flush.number) × CanBeStruck (history new)
