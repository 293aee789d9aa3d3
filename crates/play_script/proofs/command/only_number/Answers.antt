use Rattle.play_script.proofs.Wording.{only_number_more}
use Rattle.play_script.proofs.command.only_number.Goals as goal

pub returns-in-Some : goal.returns-in-Some
returns-in-Some c =
    let split = rw c.in-Some.is at c.cut_word-word.ensures.words in
    rw c.in_ok-rest.was (only_number_more _ _ c.in-Some.field-0.now split)
