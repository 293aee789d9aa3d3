use Rattle.std.proofs.Common.{◌≡◌, fold, take}
use Rattle.book_desk.specs.Rounds.{or_entries}
use Rattle.book_desk.proofs.rounds.count_entries.Given as goal

abbrev pub invariant-loop-book : goal.invariant-loop-book
invariant-loop-book l = l.most ≡ fold or_entries 0 (take l.book-index l.books)
