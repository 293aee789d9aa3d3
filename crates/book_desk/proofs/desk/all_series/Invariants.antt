use Rattle.std.proofs.Common.{◌≡◌, fold, take}
use Rattle.book_desk.specs.Written.{and_series}
use Rattle.book_desk.proofs.desk.all_series.Given as goal

abbrev pub invariant-loop-book : goal.invariant-loop-book
invariant-loop-book l = l.total ≡ fold and_series 0 (take l.book-index l.books)
