use Rattle.book_desk.specs.Crossings.{NoneCrosses}
use Rattle.book_desk.proofs.desk.Desk.crosses.Given as goal

abbrev pub invariant-loop-i : goal.invariant-loop-i
invariant-loop-i l = NoneCrosses l.stretch l.self.books.items l.reader l.first l.i
