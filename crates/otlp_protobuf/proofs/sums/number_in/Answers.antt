use Rattle.std.proofs.Common.{refl, rules, sym, w64}
use Rattle.std.proofs.lemmas.Int.{to_z-of_z}
use Rattle.std.specs.Prelude.{FitsSigned}
use Rattle.otlp_read.specs.Sums.{number_in}
use Rattle.otlp_protobuf.proofs.PointLemmas.{number_read}
use Rattle.otlp_protobuf.proofs.sums.number_in.Goals as goal

pub returns-in-Some : goal.returns-in-Some
returns-in-Some c =
    let f : FitsSigned w64 c.in-Some.number = search rules in
    rw (c.in-Some.is, to_z-of_z) (sym (number_read _ f))

pub returns-in-None : goal.returns-in-None
unfolding number_in
returns-in-None c = rw c.in-None.is refl
