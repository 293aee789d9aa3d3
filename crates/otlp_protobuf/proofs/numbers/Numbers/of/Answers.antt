use Rattle.std.proofs.Common.{ap}
use Rattle.otlp_protobuf.specs.Wire.{fields_from}
use Rattle.otlp_protobuf.specs.Fields.{packed_from, numbers}
use Rattle.otlp_protobuf.proofs.numbers.Numbers.of.Goals as goal

pub returns-in-Some : goal.returns-in-Some
unfolding numbers fields_from
returns-in-Some c = c.args.list.are_found _ c.in-Some.is

pub returns-in-None : goal.returns-in-None
unfolding packed_from
returns-in-None c = ap (numbers c.args.list.number) c.of.ensures
