use Rattle.std.proofs.Common.{length, arith, ◌<◌}
use Rattle.book_desk.specs.Ends.{IsEndedBy, MayEndBy}
use Rattle.book_desk.proofs.Firsts.{each_none, each_rest}
use Rattle.book_desk.proofs.Flights.{live_none, live_more, and_first, and_second, may_end}
use Rattle.book_desk.proofs.end.+end_each.Goals as goal

pub returns-then-is_empty-clause-live : goal.returns-then-is_empty-clause-live
returns-then-is_empty-clause-live t c = live_none _ _ (grind arith)

pub returns-then-is_empty-clause-ended : goal.returns-then-is_empty-clause-ended
returns-then-is_empty-clause-ended t c =
    λ r. each_none (IsEndedBy c.args.end) _ _ (grind arith) c.requires

pub returns-then-is_empty-clause-each : goal.returns-then-is_empty-clause-each
returns-then-is_empty-clause-each t c = each_none (MayEndBy c.args.end) _ _ (grind arith) c.requires

pub returns-clause-live : goal.returns-clause-live
returns-clause-live t c =
    let l : 0 < length c.args.books.now = grind arith in
    live_more _ _ _ _ _ _ _ _ l c.requires c.end_one-is_first.ensures.live
    c.end_each-are_others.ensures.live

pub returns-clause-ended : goal.returns-clause-ended
returns-clause-ended t c = λ r.
    let l : 0 < length c.args.books.now = grind arith in
    each_rest (IsEndedBy c.args.end) _ _ _ _ _ _ c.index-flushes-0.result l c.requires
    (c.end_one-is_first.ensures.ended (and_first _ _ r))
    (c.end_each-are_others.ensures.ended (and_second _ _ r))

pub returns-clause-each : goal.returns-clause-each
returns-clause-each t c =
    let l : 0 < length c.args.books.now = grind arith in
    each_rest (MayEndBy c.args.end) _ _ _ _ _ _ c.index-flushes-0.result l c.requires
    (may_end _ _ _ _ _ c.end_one-is_first.ensures.ended c.end_one-is_first.ensures.stale)
    c.end_each-are_others.ensures.each
