use Rattle.std.proofs.Common.{sym, ◌∙◌, arith}
use Rattle.out_texts.specs.Sharing.{same}
use Rattle.out_texts.proofs.Loops.{run_goes, run_ends, run_past}
use Rattle.out_texts.proofs.runs.run.Goals as goal

pub returns-then-not-is_shared-clause-value : goal.returns-then-not-is_shared-clause-value
returns-then-not-is_shared-clause-value c =
    run_ends (same c.args.level) c.loop-point.last.now c.point-item.result c.args.others.now
    c.loop-point.point-index c.loop-point.count _ c.loop-point-test.true c.point-item.is
    (rw (sym c.series.ensures, sym c.series-in-loop-point.ensures)
    (sym c.is_shared.ensures ∙ c.if-not-is_shared.true)) c.loop-point.invariant.run

pub loop-point-preserved : goal.loop-point-preserved
loop-point-preserved c = record {
  counted = omega arith;
  run = run_goes (same c.args.level) c.loop-point.last.now c.point-item.result c.args.others.now
      c.loop-point.point-index c.loop-point.count _ c.loop-point-test.true c.point-item.is
      (rw (sym c.series.ensures, sym c.series-in-loop-point.ensures)
      (sym c.is_shared.ensures ∙ c.if-not-is_shared.false)) c.loop-point.invariant.run;
}

pub returns-clause-value : goal.returns-clause-value
returns-clause-value c = run_past (same c.args.level) c.loop-point.last.now c.args.others.now
    c.loop-point.point-index c.loop-point.count _ c.loop-point-test.false c.loop-point.invariant.run
