use Rattle.std.proofs.Common.{◌≡◌, ◌*◌, ◌+◌, ◌/◌, List, take, ℕ, arith, refl, subst}
use Rattle.otlp_protobuf.specs.inner.Runs.{SaysRun}
use Rattle.otlp_protobuf.proofs.RunLemmas.{run_says}
use Rattle.otlp_protobuf.proofs.point_attributes.PointAttributes.run.Goals as goal

pub returns : goal.returns
returns c =
    let front : List ℕ = take c.run_at-size.result.0 c.from_key-front.result.now in
    let key : ℕ = c.args.self.number * 8 + 2 in
    let same : key / 8 ≡ c.args.self.number = omega arith in
    subst (λ n. SaysRun n c.run_at-size.result.1 front) same
    (run_says (key / 8) c.run_at-size.result.0 c.run_at-size.result.1
    c.from_key-front.result.now front c.run_at-size.ensures refl)
