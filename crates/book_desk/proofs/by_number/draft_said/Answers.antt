use Rattle.std.proofs.Common.{List, ℕ, sym, ap, ◌∙◌, arith}
use Rattle.book_desk.specs.Words.{said}
use Rattle.book_desk.proofs.WordsRead.{said_done}
use Rattle.book_desk.proofs.by_number.draft_said.Goals as goal

pub loop-left-preserved : goal.loop-left-preserved
loop-left-preserved c =
    let i = c.loop-left.invariant.read in
    let s = c.in-Ok.ensures.read (i.0) (i.2) in
    record {
      read = (
        s.0,
        i.1 ∙ (s.1 ∙ ap (λ (xs : List ℕ). said c.args.names.now 0 xs (s.0))
            (sym c.split_at.ensures.back)),
        s.2,
      );
      from = c.in-Ok.ensures.from;
      sender = c.in-Ok.ensures.sender ∙ c.loop-left.invariant.sender;
      window = c.in-Ok.ensures.window ∙ c.loop-left.invariant.window;
      books = c.in-Ok.ensures.books ∙ c.loop-left.invariant.books;
      few = omega (
        arith,
        c.in-Ok.ensures.more,
        c.in-Ok.ensures.many,
        c.split_at.ensures.back_len,
        c.loop-left.invariant.few,
      );
    }

pub returns-clause-read : goal.returns-clause-read
returns-clause-read c =
    let i = c.loop-left.invariant.read in
    (i.0, i.1 ∙ said_done c.args.names.now c.loop-left.left.now (i.0) (grind arith), i.2)
