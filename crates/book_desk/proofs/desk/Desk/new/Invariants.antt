use Rattle.std.proofs.Common.{◌≡◌, [], length}
use Rattle.std.specs.List.{All}
use Rattle.delta_book.specs.Journal.{journal_of}
use Rattle.metric_events.specs.Opening.{first_opening}
use Rattle.book_desk.proofs.desk.Desk.new.Given as goal

abbrev pub invariant-loop : goal.invariant-loop
invariant-loop l = record {
  count : length l.books.items
      ≡ l.counter;
  books : All (λ b. b ≡ journal_of first_opening []) l.books.items;
}
