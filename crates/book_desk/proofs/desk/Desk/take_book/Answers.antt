use Rattle.std.proofs.Common.{arith}
use Rattle.book_desk.proofs.Takes.{taken_alone}
use Rattle.book_desk.proofs.desk.Desk.take_book.Goals as goal

pub returns-in-Ok-take_one-clause-taken : goal.returns-in-Ok-take_one-clause-taken
returns-in-Ok-take_one-clause-taken c =
    taken_alone c.args.max c.args.i c.args.self.now.books.items c.in-Ok.taken.items
    c.take_one.new.book c.index_mut.result.now c.in-Ok-take_one.flush (omega arith)
    (omega (arith, c.in-Ok.ensures.length, c.len-2.ensures)) c.in-Ok.ensures.none
    c.index_mut.ensures.value c.in-Ok-take_one.ensures.taken
