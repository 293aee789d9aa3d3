use Rattle.std.proofs.Common.{inl, refl, arith}
use Rattle.std.proofs.lemmas.Grind.{common_steps}
use Rattle.book_desk.specs.Takes.{RestsTaken}
use Rattle.book_desk.proofs.Firsts.{book_same}
use Rattle.book_desk.proofs.Flights.{nothing_came}
use Rattle.book_desk.proofs.desk.Desk.take.Goals as goal

pub returns-in_default-clause-refused : goal.returns-in_default-clause-refused
returns-in_default-clause-refused c =
    (book_same (RestsTaken c.args.max) _ (λ o. inl refl), inl refl)

pub returns-in-0-clause-refused : goal.returns-in-0-clause-refused
returns-in-0-clause-refused c = nothing_came c.args.max _ c.deref_mut.result.now
    c.take_each.new.books _ c.take_each.new.flushes c.deref_mut.ensures.value
    (grind (arith, common_steps)) (grind (arith, common_steps))
    (c.in-Ok-take_each.ensures.taken)
