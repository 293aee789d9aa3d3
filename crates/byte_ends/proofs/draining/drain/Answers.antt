use Rattle.std.proofs.Common.{◌≡◌, ◌<◌, ◌≤◌, take, length, arith, ◌∙◌}
use Rattle.std.proofs.lemmas.List.{length-take}
use Rattle.byte_ends.proofs.Thrown.{more_so_far, drained}
use Rattle.byte_ends.proofs.draining.drain.Goals as goal

pub returns-then-n-eq0-clause-thrown : goal.returns-then-n-eq0-clause-thrown
returns-then-n-eq0-clause-thrown g c =
    let none : c.in_ok-n.n ≡ 0 = c.if-n-eq0.true in
    let gave = c.in_ok-n.ensures.bytes in
    let same = c.read.auto.buf in
    let some = c.loop-left-test.true in
    let room : 0 < length c.read.new.buf = grind (arith, length-take, same, some) in
    drained _ _ _ c.args.most c.loop-left.left _ c.loop-left.invariant.0 (rw none at gave.0)
    (gave.1 none room)

pub loop-left-preserved : goal.loop-left-preserved
loop-left-preserved g c =
    let bound = c.in_ok-n.ensures.bound in
    let size : length (take c.in_ok-n.n c.read.new.buf) ≡ c.in_ok-n.n =
    grind (arith, length-take) in
    let same = c.read.auto.buf in
    let within : c.in_ok-n.n ≤ c.loop-left.left = grind (arith, length-take, same, bound) in (
      more_so_far _ _ _ c.args.most c.loop-left.left c.in_ok-n.n (take c.in_ok-n.n c.read.new.buf)
          c.loop-left.invariant.0 c.in_ok-n.ensures.bytes.0 size within,
      c.in_ok-n.ensures.failed ∙ c.loop-left.invariant.1,
    )
