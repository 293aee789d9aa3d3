use Rattle.http_edge.proofs.AnswerLemmas.{fault_lasts}
use Rattle.http_edge.proofs.laws.fault_lasts.Goals as goal

pub returns : goal.returns
returns c = fault_lasts
