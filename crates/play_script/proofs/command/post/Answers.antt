use Rattle.std.proofs.Common.{sym, ◌∙◌}
use Rattle.play_script.proofs.Wording.{good_post}
use Rattle.play_script.proofs.command.post.Goals as goal

pub returns-clause-asks : goal.returns-clause-asks
returns-clause-asks c =
    let split = rw c.in_ok-body.was at c.cut_word-sender.ensures.words in
    rw c.in_ok-rest.was
    (good_post _ _ _ split (sym c.is_sender_name.ensures ∙ c.if-not-is_sender_name.false))
