-- Whether the receipts of the seats are the journal.
use Rattle.std.specs.Prelude.{◌≡◌, ℕ, ◌<◌, ◌==◌, ◌||◌, Bool, true, false, List, [], ◌∷◌}
use Rattle.std.specs.Prelude.{length, sum_by}
use Rattle.metric_events.specs.declared.entry.Entry.{Entry}
use Rattle.metric_events.specs.declared.event.Event.{Event}
use Rattle.metric_events.specs.declared.event.Event.TheVariants.{Admit}
use Rattle.shared_book.specs.Receipts.{SeatView, receipts_of}

-- a seat's receipts are those of the entries that name it, each once, in order
abbrev pub IsMatched : List Entry → SeatView → Type 0
IsMatched entries t = t.receipts ≡ receipts_of t.number 0 entries

-- a seat has fewer receipts than entries name it
abbrev pub IsShort : List Entry → SeatView → Type 0
IsShort entries t = length t.receipts < length (receipts_of t.number 0 entries)

-- one of the seats has this number
abbrev pub is_seated : ℕ → List SeatView → Bool
is_seated n [] = false
is_seated n (t ∷ ts) = (t.number == n) || is_seated n ts

-- each number below `seats` is that of one of these
abbrev pub AllSeated : ℕ → List SeatView → Type 0
AllSeated seats ts = (n : ℕ) → n < seats → is_seated n ts ≡ true

-- how many points an event admits
abbrev pub points_in : Event → ℕ
points_in (Admit b body) = length body.points
points_in other = 0

-- how many points were admitted by these entries
abbrev pub admitted_points : List Entry → ℕ
admitted_points entries = sum_by (λ e. points_in e.event) entries
