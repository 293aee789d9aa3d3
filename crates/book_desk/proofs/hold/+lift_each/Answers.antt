use Rattle.std.proofs.Common.{length, arith, ◌<◌}
use Rattle.book_desk.specs.Holds.{Releases}
use Rattle.book_desk.proofs.Firsts.{book_rest, book_none}
use Rattle.book_desk.proofs.Holds.{held_more, held_none, not_lifted, or_first, or_second}
use Rattle.book_desk.proofs.hold.+lift_each.Goals as goal

pub returns-then-is_empty-clause-held : goal.returns-then-is_empty-clause-held
returns-then-is_empty-clause-held t c = held_none _ _ (grind arith)

pub returns-then-is_empty-clause-released : goal.returns-then-is_empty-clause-released
returns-then-is_empty-clause-released t c = book_none (Releases c.args.sender.now) _ (grind arith)

pub returns-clause-held : goal.returns-clause-held
returns-clause-held t c =
    let l : 0 < length c.args.books.now = grind arith in
    held_more _ _ _ _ _ _ l c.lift-is_first.ensures.held c.lift_each-are_others.ensures.held

pub returns-clause-released : goal.returns-clause-released
returns-clause-released t c =
    let l : 0 < length c.args.books.now = grind arith in
    book_rest (Releases c.args.sender.now) _ _ _ _ l c.lift-is_first.ensures.released
    c.lift_each-are_others.ensures.released

pub returns-clause-same : goal.returns-clause-same
returns-clause-same t c = λ r.
    let l : 0 < length c.args.books.now = grind arith in
    not_lifted _ _ _ _ _ _ l (or_first _ _ r) c.lift-is_first.ensures.held
    c.lift-is_first.ensures.released (c.lift_each-are_others.ensures.same (or_second _ _ r))
