use Rattle.out_texts.proofs.Whole.{success_whole}
use Rattle.out_texts.proofs.success.success_text.Goals as goal

pub text_of-requires : goal.text_of-requires
text_of-requires c = rw c.in_ok-value.ensures (success_whole c.args.foreign)
