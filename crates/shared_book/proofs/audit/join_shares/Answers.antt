use Rattle.std.proofs.Common.{◌≡◌, arith, vec_len}
use Rattle.std.proofs.lemmas.Grind.{common_steps}
use Rattle.shared_book.proofs.Seats.{seated_enough}
use Rattle.shared_book.proofs.audit.join_shares.Goals as goal

pub returns-clause-total : goal.returns-clause-total
returns-clause-total g c =
    let enough = seated_enough g.L.Ledger.parts c.args.seats.items c.requires.all in
    let none : vec_len c.loop-seat.seats ≡ 0 =
    grind (arith, common_steps, c.in_default-pop.ensures.len) in
    let whole = c.audit-2.ensures.whole (omega (arith, enough)) in
    omega (arith, whole)

pub returns-clause-once : goal.returns-clause-once
returns-clause-once g c =
    let enough = seated_enough g.L.Ledger.parts c.args.seats.items c.requires.all in
    let none : vec_len c.loop-seat.seats ≡ 0 =
    grind (arith, common_steps, c.in_default-pop.ensures.len) in
    omega (arith, enough)
