use Rattle.std.proofs.Common.{refl}
use Rattle.gate_workers.proofs.content.is_json.Goals as goal

pub returns-in-None : goal.returns-in-None
returns-in-None c = rw c.in-None.ensures.values refl

pub returns-in-Some : goal.returns-in-Some
returns-in-Some c = rw c.in-Some.ensures.values (rw c.before-in-Some.ensures at c.is_words.ensures)
