use Rattle.std.proofs.Common.{length}
use Rattle.book_desk.proofs.end.+end_each.Given as goal

abbrev pub decreases-end_each : goal.decreases-end_each
decreases-end_each l = length l.books.now
