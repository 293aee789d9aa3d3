use Rattle.otlp_protobuf.proofs.NumberLemmas.{first_packed, no_packed}
use Rattle.otlp_protobuf.proofs.numbers.next_packed.Goals as goal

pub returns-in-Ok : goal.returns-in-Ok
returns-in-Ok c = first_packed c.args.bytes.now _ c.in-Ok.ensures

pub returns-in-Err : goal.returns-in-Err
returns-in-Err c = no_packed c.args.bytes.now _ c.in-Err.ensures
