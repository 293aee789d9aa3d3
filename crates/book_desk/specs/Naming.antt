-- Which number a series has among names, and the requests that say what a number stands for.
use Rattle.std.specs.Prelude.{◌≡◌, ◌≢◌, ℕ, ◌⊎◌, List, [], ◌∷◌, ◌++◌, length, slice_get}
use Rattle.std.specs.Prelude.{Some, None, Ok}
use Rattle.series_id.specs.Identity.{Identity}
use Rattle.metric_events.specs.DataPoint.{DataPoint}
use Rattle.otlp_read.specs.Reading.{text_reading}
use Rattle.otlp_read.specs.Tallies.{Tally}
use Rattle.book_desk.specs.declared.flushes.TextFault.{TextFault}
use Rattle.book_desk.specs.declared.flushes.TextFault.TheVariants.{NoSuch, NoMemory}

-- the series has this number: one that it had, or else the next one
abbrev pub IsNumbered : Identity → (old new : List Identity) → (number : ℕ) → Type 0
IsNumbered x old new number =
    ((slice_get old number ≡ Some x) × (new ≡ old))
    ⊎ ((number ≡ length old) × (new ≡ old ++ x ∷ []))

-- there are these names, and maybe more behind them
abbrev pub Extends : (old new : List Identity) → Type 0
Extends old new = (more : List Identity) × (new ≡ old ++ more)

-- the bytes are a request that has one point alone, of this series
abbrev pub IsRequestOf : (bytes : List ℕ) → Identity → Type 0
IsRequestOf bytes x =
    (t : Tally) × (p : DataPoint) × (text_reading bytes ≡ Some (Ok t)) × (t.points ≡ p ∷ [])
    × (t.foreign ≡ 0) × (p.series ≡ x)

-- the bytes are a request of the series with this number
abbrev pub IsNamed : List Identity → (number : ℕ) → (bytes : List ℕ) → Type 0
IsNamed names number bytes =
    (x : Identity) × (slice_get names number ≡ Some x) × IsRequestOf bytes x

-- why it is not written: there is no such number, or memory ran out
abbrev pub IsNotNamed : List Identity → (number : ℕ) → TextFault → Type 0
IsNotNamed names number NoSuch = slice_get names number ≡ None
IsNotNamed names number NoMemory = slice_get names number ≢ None
