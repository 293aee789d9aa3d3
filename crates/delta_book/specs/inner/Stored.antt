-- What a book keeps belongs to the history of its journal.
use Rattle.std.specs.Prelude.{◌≡◌, ◌≤◌, true, false, take, vec_capacity}
use Rattle.std.specs.List.{list_any}
use Rattle.metric_events.specs.History.{History}
use Rattle.metric_events.specs.Points.{points}
use Rattle.metric_events.specs.Running.{open_batches, live_flushes, held_senders}
use Rattle.metric_events.specs.Legal.{IsLegal}
use Rattle.metric_events.specs.declared.limits.TheConstants.{MAX_ENTRIES, MAX_OPEN, MAX_LIVE}
use Rattle.delta_book.specs.declared.opening.TheConstants.{LAST_ROUND}
use Rattle.delta_book.specs.declared.book.Book.TheInside.{Inside}
use Rattle.delta_book.specs.Journal.{Journal, journal_of, history, admits, takes, IsNumbered}
use Rattle.delta_book.specs.inner.Ready.{is_ready}
use Rattle.delta_book.specs.Tables.{AreCells}
use Rattle.delta_book.specs.inner.Tables.{AreOpen, AreFlights, are_full}

-- the journal of what a book keeps, and its history
abbrev pub journal_in : Inside → Journal
journal_in b = journal_of b.opening b.entries.items

abbrev pub history_in : Inside → History
history_in b = history (journal_in b)

-- the history is legal and numbered; the cells, what is open, live and quarantined, and the counts
-- are those of the history; nothing may be taken of the cells that are passed over; and there is
-- room for all entries, open batches and live flushes
pub record IsStored (b : Inside) : Type 0 where
  pub legal : IsLegal (history_in b)
  pub numbered : IsNumbered (history_in b)
  pub cells : AreCells b.cells.items (points (history_in b))
  pub opened : AreOpen b.entries.items b.opened.items (open_batches (history_in b))
  pub live : AreFlights b.entries.items b.live.items (live_flushes (history_in b))
  pub full : are_full (points (history_in b)) (live_flushes (history_in b)) ≡ true
  pub held_are : b.held.items ≡ held_senders (history_in b)
  pub admitted_are : b.batches ≡ admits (history_in b)
  pub taken_are : b.flushes ≡ takes (history_in b)
  pub passed_over : list_any (is_ready b.held.items) (take b.passed b.cells.items) ≡ false
  pub round : b.opening.round ≤ LAST_ROUND
  pub room : MAX_ENTRIES ≤ vec_capacity b.entries
  pub open_room : MAX_OPEN ≤ vec_capacity b.opened
  pub live_room : MAX_LIVE ≤ vec_capacity b.live
