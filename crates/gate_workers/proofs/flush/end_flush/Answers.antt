use Rattle.gate_workers.proofs.flush.end_flush.Goals as goal

pub returns-in-Settle : goal.returns-in-Settle
returns-in-Settle g c = rw c.in-Settle.is (c.settle.result, c.settle.ensures)

pub returns-in-GiveBack : goal.returns-in-GiveBack
returns-in-GiveBack g c = rw c.in-GiveBack.is (c.give_back.result, c.give_back.ensures)

pub returns-in-DropFlush : goal.returns-in-DropFlush
returns-in-DropFlush g c = rw c.in-DropFlush.is (c.drop_flush.result, c.drop_flush.ensures)
