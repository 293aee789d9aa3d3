use Rattle.play_script.proofs.Wording.{answer_in_more}
use Rattle.play_script.proofs.command.answer_with_wait.Goals as goal

pub returns-in-Some : goal.returns-in-Some
returns-in-Some c =
    let split = rw c.in-Some.is at c.cut_word-word.ensures.words in
    answer_in_more c.args.code.now _ _ c.in-Some.field-0.now split
