use Rattle.std.proofs.Common.{refl, ap, length}
use Rattle.gate_workers.proofs.flush.flush_turn.Goals as goal

pub returns-clause-turn : goal.returns-clause-turn
returns-clause-turn g c = (
  c.in-Ok-Some.flush,
  c.take.new.self,
  rw c.in-Ok-Some.field-0-is at c.in-Ok-Some.ensures,
  rw (c.as_slice.ensures.value, c.in-Ok.ensures.text) at c.send-answer.ensures,
  rw c.act-by.ensures.act at c.end_flush-2.ensures,
  refl,
  ap length c.as_slice-2.ensures.value,
  c.act-by.ensures.act,
)
