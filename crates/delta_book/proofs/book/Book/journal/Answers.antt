use Rattle.std.proofs.Common.{length, ap, subst, arith}
use Rattle.metric_events.proofs.Room.{kept_room}
use Rattle.delta_book.specs.Journal.{Journal, journal_of, history, KeepsRoom}
use Rattle.delta_book.proofs.Journaled.{entries-history}
use Rattle.delta_book.proofs.book.Book.journal.Goals as goal

pub returns-clause-room : goal.returns-clause-room
returns-clause-room c = subst (λ (j : Journal). KeepsRoom (history j)) c.self.view_is
    (kept_room (history (journal_of c.self.inside.opening c.self.inside.entries.items))
    c.self.invariant.legal)

pub returns-clause-few : goal.returns-clause-few
returns-clause-few c =
    let j = journal_of c.self.inside.opening c.self.inside.entries.items in
    omega (
      arith,
      kept_room (history j) c.self.invariant.legal,
      entries-history j,
      ap length
          c.as_slice.ensures.value,
    )
