use Rattle.out_texts.proofs.Taken.{taken_once}
use Rattle.out_texts.proofs.laws.grouping.Goals as goal

pub returns : goal.returns
returns c = record { once = taken_once }
