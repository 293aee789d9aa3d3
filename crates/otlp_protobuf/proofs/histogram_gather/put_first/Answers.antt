use Rattle.std.proofs.Common.{arith}
use Rattle.otlp_protobuf.proofs.SpotLemmas.{first_spot}
use Rattle.otlp_protobuf.proofs.histogram_gather.put_first.Goals as goal

pub returns : goal.returns
returns c =
    λ after all is. first_spot c.args.before.now c.args.content.now after all (omega arith) is
