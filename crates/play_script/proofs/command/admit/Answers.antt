use Rattle.std.proofs.lemmas.Result.{err_from_is_err_and}
use Rattle.std.proofs.Common.{sym, ◌∙◌}
use Rattle.play_script.proofs.Wording.{points_take_memory}
use Rattle.play_script.proofs.command.admit.Goals as goal

pub returns-in_err-points-clause-memory : goal.returns-in_err-points-clause-memory
returns-in_err-points-clause-memory c =
    let p = err_from_is_err_and c.from_residual.result c.from_residual.ensures.1 in
    let split = rw c.in-Some-rest.is at c.cut_word-sender.ensures.words in
    rw (p.1, c.in-Some.is) (points_take_memory _ _ c.in-Some-rest.words.now split
    (sym c.is_sender_name.ensures ∙ c.if-not-is_sender_name.false)
    c.in_err-points.ensures.memory)
