use Rattle.std.proofs.Common.{refl, ◌∙◌}
use Rattle.std.proofs.lemmas.Result.{err_from_is_err_and}
use Rattle.play_script.proofs.Marked.{nothing_done, line_done, line_failed}
use Rattle.play_script.proofs.script.answer_lines.Goals as goal

pub loop-rest-init : goal.loop-rest-init
loop-rest-init g c = (nothing_done _ _ _ c.requires, refl)

pub loop-rest-preserved : goal.loop-rest-preserved
loop-rest-preserved g c =
    let a = c.in_ok-answer_line.ensures.answered in (
      line_done _ _ _ _ _ _ _ _ c.cut_line.result.0.now a.0 c.loop-rest.invariant.0
          c.cut_line.ensures.lines a.1 a.2,
      c.in_ok-answer_line.ensures.failed
          ∙ c.loop-rest.invariant.1,
    )

pub returns-in_err-answer_line-clause-played : goal.returns-in_err-answer_line-clause-played
returns-in_err-answer_line-clause-played g c =
    let p = err_from_is_err_and c.from_residual.result c.from_residual.ensures.1 in
    rw (p.1, p.2) (line_failed _ _ _ _ _ _ _ _ c.cut_line.result.0.now _ c.loop-rest.invariant.0
    c.cut_line.ensures.lines c.in_err-answer_line.ensures.answered)
