use Rattle.std.proofs.Common.{sym}
use Rattle.std.proofs.lemmas.Result.{err_from_is_err_and}
use Rattle.otlp_read.proofs.ContainerLemmas.{fails_then}
use Rattle.otlp_read.specs.Tallies.{tally}
use Rattle.otlp_read.specs.Reading.{body, each, resource_metrics}
use Rattle.otlp_read.proofs.walk.body.Goals as goal

pub returns : goal.returns
unfolding body
returns c = rw (sym c.field.ensures, c.in_ok-values.ensures) c.each.ensures

pub returns-in_err-values : goal.returns-in_err-values
unfolding body
returns-in_err-values c =
    let p = err_from_is_err_and c.from_residual.result c.from_residual.ensures.1 in
    rw (p.1, p.2, sym c.field.ensures)
    (fails_then _ _ (λ resources. each resource_metrics resources (tally c.args.reader.now.out))
    c.in_err-values.ensures)
