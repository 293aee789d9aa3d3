-- What the close of a round does to the books, and how long their journals are.
use Rattle.std.specs.Prelude.{◌≡◌, ℕ, ◌<◌, ◌≤◌, List, length, get_or, set, None, fold, max}
use Rattle.metric_events.specs.Standing.{standing}
use Rattle.metric_events.specs.Close.{renewed_standing}
use Rattle.delta_book.specs.Journal.{Journal, history}
use Rattle.delta_book.specs.Rounds.{round_refusal, closed}

-- a journal of at least so many entries was closed, and the next round begins in the state in which
-- it ended, but for what is past
pub record IsClosed (entries : ℕ) (old new : Journal) : Type 0 where
  pub long : entries ≤ length old.entries
  pub none : round_refusal (history old) ≡ None
  pub next : new ≡ closed old
  pub stands : standing (history new) ≡ renewed_standing (standing (history old))

-- that of the i-th book was closed, and each other book is as it was
pub record IsClosedAlone (entries i : ℕ) (old new : List Journal) : Type 0 where
  pub found : i < length old
  pub closed : (d : Journal) → IsClosed entries (get_or old i d) (get_or new i d)
  pub alone : (d : Journal) → new ≡ set old i (get_or new i d)

-- how many entries the longest of the books' journals has
abbrev pub or_entries : ℕ → Journal → ℕ
or_entries n book = max n (length book.entries)

abbrev pub most_entries : List Journal → ℕ
most_entries books = fold or_entries 0 books
