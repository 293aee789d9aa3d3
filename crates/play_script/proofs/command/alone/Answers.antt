use Rattle.play_script.proofs.Wording.{nothing_more}
use Rattle.play_script.proofs.command.alone.Goals as goal

pub returns-clause-asks : goal.returns-clause-asks
returns-clause-asks c = rw c.in-Some.is (nothing_more _ c.in-Some.field-0.now)
