use Rattle.std.proofs.Common.{refl}
use Rattle.out_texts.specs.Answers.{status_value}
use Rattle.out_texts.proofs.status.status_text.Goals as goal

pub text_of-requires : goal.text_of-requires
unfolding status_value
text_of-requires c = rw c.in_ok-value.ensures refl
