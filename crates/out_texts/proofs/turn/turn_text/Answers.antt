use Rattle.out_texts.proofs.Whole.{turn_whole}
use Rattle.out_texts.proofs.turn.turn_text.Goals as goal

pub text_of-requires : goal.text_of-requires
text_of-requires c =
    rw c.in_ok-value.ensures (turn_whole c.args.flush c.args.points c.args.act c.args.after)
