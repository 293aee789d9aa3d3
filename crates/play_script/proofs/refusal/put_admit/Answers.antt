use Rattle.std.proofs.Common.{codes}
use Rattle.out_texts.proofs.Putting.{put_after, put_two}
use Rattle.play_script.proofs.refusal.put_admit.Goals as goal

pub returns-in-TooManySeries : goal.returns-in-TooManySeries
returns-in-TooManySeries c =
    rw c.in-TooManySeries.is (put_after c.extend_from_slice-in-TooManySeries.result
    _ c.args.out.now.items (codes "too-many-series")
    c.extend_from_slice-in-TooManySeries.ensures.items)

pub returns-in_ok-extend_from_slice-in-OutOfOrder
    : goal.returns-in_ok-extend_from_slice-in-OutOfOrder
returns-in_ok-extend_from_slice-in-OutOfOrder c =
    rw c.in-OutOfOrder.is (put_two c.put_place.result c.args.out.now.items (codes "out-of-order ")
    _ _ _ c.in_ok-extend_from_slice-in-OutOfOrder.ensures.items c.put_place.ensures)
