use Rattle.std.proofs.Common.{◌≡◌, ◌+◌, ◌-◌, ◌++◌, ◌∷◌, [], length, take, arith, subst, sym}
use Rattle.std.proofs.lemmas.List.{take_all}
use Rattle.delta_book.specs.inner.Removals.{AreCellsFor}
use Rattle.delta_book.proofs.Parts.{last_point}
use Rattle.delta_book.proofs.Sweeping.{swept}
use Rattle.delta_book.proofs.cells.sweep_cells.Goals as goal

pub loop-k-init : goal.loop-k-init
loop-k-init c = λ qs h. subst (AreCellsFor c.args.cells.now.items qs)
    (sym (take_all (length c.args.batch.now - 0) c.args.batch.now (omega arith))) h

pub loop-k-preserved : goal.loop-k-preserved
loop-k-preserved c = λ qs h.
    let ps = c.args.batch.now in
    let left = take (length ps - (c.loop-k.k + 1)) ps in
    subst (λ cs. AreCellsFor cs qs left) c.deref.ensures.value
    (c.is_empty_at.ensures qs left c.if-is_empty_at.false
    (subst (λ cs. AreCellsFor cs qs (left ++ c.index-batch-i.result ∷ []))
    (sym c.deref.ensures.value) (subst (AreCellsFor c.loop-k.cells.items qs)
    (last_point ps c.loop-k.k c.index-batch-i.result c.loop-k-test.true c.index-batch-i.is)
    (c.loop-k.invariant qs h))))

pub returns-then-is_empty_at : goal.returns-then-is_empty_at
returns-then-is_empty_at c = λ qs h.
    c.keep_full.ensures qs (take (length c.args.batch.now - c.loop-k.k) c.args.batch.now)
    (c.loop-k.invariant qs h)

pub returns : goal.returns
returns c = λ qs h.
    let ps = c.args.batch.now in
    let none : length ps - c.loop-k.k ≡ 0 = omega (arith, c.loop-k-test.false) in
    swept c.loop-k.cells.items qs (subst (λ n. AreCellsFor c.loop-k.cells.items qs (take n ps)) none
    (c.loop-k.invariant qs h))
