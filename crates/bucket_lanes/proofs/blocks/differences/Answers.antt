use Rattle.std.proofs.Common.{ℕ, ◌-◌, arith, ◌∙◌}
use Rattle.std.proofs.lemmas.Simd.{length-zip2}
use Rattle.bucket_lanes.proofs.Lanes.{Each2-by_index}
use Rattle.bucket_lanes.proofs.blocks.differences.Goals as goal

pub overflow_sub-result : goal.overflow_sub-result
overflow_sub-result c =
    Each2-by_index _ c.args.a c.args.b (omega arith) (λ k lt. c.requires.within k (omega arith))

pub returns-clause-long : goal.returns-clause-long
returns-clause-long c =
    let sub : ℕ → ℕ → ℕ = λ x y. x - y in
    length-zip2 sub c.args.a c.args.b (omega arith) ∙ c.requires.long.0
