use Rattle.std.proofs.Common.{arith, ap, length}
use Rattle.metric_events.specs.Points.{points}
use Rattle.delta_book.proofs.Counting.{few_cells}
use Rattle.delta_book.proofs.put.put_batch.Goals as goal

pub put_all-requires : goal.put_all-requires
put_all-requires c =
    let r = c.requires.accepted in
    (points r.0, r.1.1)

pub refusal_without_alloc-fault-requires-clause-few
    : goal.refusal_without_alloc-fault-requires-clause-few
refusal_without_alloc-fault-requires-clause-few c =
    let r = c.requires.accepted in
    omega (
      arith,
      ap length c.deref.ensures.value,
      few_cells c.put_all.new.cells.items
          (r.0, (r.1.0, c.in-Err.ensures.kept (points r.0) r.1.1)),
    )
