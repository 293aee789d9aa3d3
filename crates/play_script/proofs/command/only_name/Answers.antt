use Rattle.play_script.proofs.Wording.{only_name_more}
use Rattle.play_script.proofs.command.only_name.Goals as goal

pub returns-in-Some-clause-name : goal.returns-in-Some-clause-name
returns-in-Some-clause-name c =
    let split = rw c.in-Some.is at c.cut_word-word.ensures.words in
    rw c.in_ok-rest.was (only_name_more _ _ c.in-Some.field-0.now split)
