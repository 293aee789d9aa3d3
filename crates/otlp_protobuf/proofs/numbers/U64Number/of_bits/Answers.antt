use Rattle.std.proofs.Common.{◌-◌, ◌^◌, refl, arith}
use Rattle.std.proofs.lemmas.Bool.{le-leb}
use Rattle.otlp_read.specs.Integers.{unsigned_in}
use Rattle.otlp_protobuf.proofs.numbers.U64Number.of_bits.Goals as goal

pub returns : goal.returns
unfolding unsigned_in
returns c = rw (le-leb c.args.bits (2 ^ 64 - 1) (omega arith)) refl
