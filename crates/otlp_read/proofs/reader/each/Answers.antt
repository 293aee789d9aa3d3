use Rattle.std.proofs.lemmas.Result.{err_from_is_err_and}
use Rattle.otlp_read.specs.Tallies.{tally}
use Rattle.otlp_read.proofs.WalkLemmas.{each_more, each_fails, each_done}
use Rattle.otlp_read.proofs.reader.each.Goals as goal

pub returns-in_err-read : goal.returns-in_err-read
returns-in_err-read g c =
    let p = err_from_is_err_and c.from_residual.result c.from_residual.ensures.1 in
    rw (p.1, p.2) (each_fails (g.O.Object.adds c.args.above) c.args.values.now
    c.loop-value.value-index c.value-item.result (tally c.loop-value.reader.out)
    _ _ c.loop-value-test.true c.value-item.is c.in_err-read.ensures c.loop-value.invariant)

pub loop-value-preserved : goal.loop-value-preserved
loop-value-preserved g c =
    each_more (g.O.Object.adds c.args.above) c.args.values.now c.loop-value.value-index
    c.value-item.result (tally c.loop-value.reader.out) _ _ c.loop-value-test.true
    c.value-item.is c.in_ok-read.ensures c.loop-value.invariant

pub returns : goal.returns
returns g c = each_done (g.O.Object.adds c.args.above) c.args.values.now c.loop-value.value-index
    (tally c.loop-value.reader.out) _ c.loop-value-test.false c.loop-value.invariant
