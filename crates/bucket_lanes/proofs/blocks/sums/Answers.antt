use Rattle.std.proofs.Common.{ℕ, ◌+◌, arith, ◌∙◌}
use Rattle.std.proofs.lemmas.Simd.{length-zip2, get_or-zip2}
use Rattle.bucket_lanes.proofs.Lanes.{Each2-by_index}
use Rattle.bucket_lanes.proofs.blocks.sums.Goals as goal

pub overflow_add-result : goal.overflow_add-result
overflow_add-result c =
    Each2-by_index _ c.args.a c.args.b (omega arith)
    (λ k lt. record { fits = c.requires.fits k (omega arith) })

pub returns-clause-long : goal.returns-clause-long
returns-clause-long c =
    let add : ℕ → ℕ → ℕ = λ x y. x + y in
    length-zip2 add c.args.a c.args.b (omega arith) ∙ c.requires.long.0

pub returns-clause-each : goal.returns-clause-each
returns-clause-each c = λ k lt.
    let add : ℕ → ℕ → ℕ = λ x y. x + y in
    get_or-zip2 add c.args.a c.args.b k 0 0 0 (omega arith) (omega arith)
