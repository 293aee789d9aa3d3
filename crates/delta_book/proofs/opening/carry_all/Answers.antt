use Rattle.std.proofs.Common.{◌∙◌, ap, arith, add-one, subst, sym, get_or, set}
use Rattle.delta_book.proofs.Carrying.{AreCarried, length_carried, carries_at, carried_more}
use Rattle.delta_book.proofs.Carrying.{carried_all}
use Rattle.delta_book.proofs.opening.carry_all.Goals as goal

pub carry-requires : goal.carry-requires
carry-requires c = (carries_at c.loop-i.i c.args.cells.now c.loop-i.cells
    (get_or c.loop-i.cells c.loop-i.i c.index-cells-i.result) c.requires c.loop-i.invariant
    (omega (
      arith,
      c.loop-i-test.true,
      length_carried c.loop-i.i c.args.cells.now c.loop-i.cells
          c.loop-i.invariant,
    )) (ap (get_or c.loop-i.cells c.loop-i.i) c.index-cells-i.is)).nothing

pub loop-i-preserved : goal.loop-i-preserved
loop-i-preserved c =
    let cell = get_or c.loop-i.cells c.loop-i.i c.index-cells-i.result in
    let some = (carries_at c.loop-i.i c.args.cells.now c.loop-i.cells cell c.requires
    c.loop-i.invariant (omega (
      arith,
      c.loop-i-test.true,
      length_carried c.loop-i.i
          c.args.cells.now c.loop-i.cells c.loop-i.invariant,
    ))
    (ap (get_or c.loop-i.cells c.loop-i.i) c.index-cells-i.is)).some in
    subst (λ n. AreCarried n c.args.cells.now (set c.loop-i.cells c.loop-i.i c.carry.new.self))
    (sym (add-one c.loop-i.i))
    (carried_more c.loop-i.i c.args.cells.now c.loop-i.cells cell c.carry.new.self
    c.loop-i.invariant (omega (
      arith,
      c.loop-i-test.true,
      length_carried c.loop-i.i
          c.args.cells.now c.loop-i.cells c.loop-i.invariant,
    ))
    (ap (get_or c.loop-i.cells c.loop-i.i) c.index-cells-i.is)
    (λ s h. record {
      stands = c.carry.ensures.stands s h some;
      id =
          c.carry.ensures.same.id ∙ sym h.series;
    }))

pub returns : goal.returns
returns c ss h = carried_all c.loop-i.i c.args.cells.now c.loop-i.cells ss c.loop-i.invariant
    (omega (
      arith,
      c.loop-i-test.false,
      length_carried c.loop-i.i c.args.cells.now c.loop-i.cells
          c.loop-i.invariant,
    )) h
