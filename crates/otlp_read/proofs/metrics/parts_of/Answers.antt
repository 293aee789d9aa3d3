use Rattle.std.proofs.Common.{refl}
use Rattle.std.proofs.lemmas.Result.{err_from_is_err_and}
use Rattle.otlp_read.proofs.ContainerLemmas.{fails_then}
use Rattle.otlp_read.specs.Metrics.{parts}
use Rattle.otlp_read.proofs.metrics.parts_of.Goals as goal

pub returns-in_err-exponential : goal.returns-in_err-exponential
unfolding parts
returns-in_err-exponential c =
    let p = err_from_is_err_and c.from_residual-in_err-exponential.result
    c.from_residual-in_err-exponential.ensures.1 in
    rw (p.1, p.2, c.in_ok-gauge.ensures, c.in_ok-sum.ensures, c.in_ok-histogram.ensures)
    (fails_then _ _ _ c.in_err-exponential.ensures)

pub returns-in_err-summary : goal.returns-in_err-summary
unfolding parts
returns-in_err-summary c =
    let p = err_from_is_err_and c.from_residual-in_err-summary.result
    c.from_residual-in_err-summary.ensures.1 in
    rw (
      p.1,
      p.2,
      c.in_ok-gauge.ensures,
      c.in_ok-sum.ensures,
      c.in_ok-histogram.ensures,
      c.in_ok-exponential.ensures,
    ) (fails_then _ _ _ c.in_err-summary.ensures)

pub returns : goal.returns
unfolding parts
returns c =
    rw (
      c.in_ok-gauge.ensures,
      c.in_ok-sum.ensures,
      c.in_ok-histogram.ensures,
      c.in_ok-exponential.ensures,
      c.in_ok-summary.ensures,
    ) refl
