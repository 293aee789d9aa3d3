use Rattle.gate_workers.proofs.OneRequest.{one_request}
use Rattle.gate_workers.proofs.laws.one_request.Goals as goal

pub returns : goal.returns
returns c = one_request
