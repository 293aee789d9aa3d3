use Rattle.otlp_read.specs.Tallies.{tally}
use Rattle.play_script.proofs.Answering.{not_empty, post_refused}
use Rattle.play_script.proofs.calls.post.Goals as goal

pub returns-in-Err-admit : goal.returns-in-Err-admit
returns-in-Err-admit c =
    let e = c.in-Err-admit.ensures in
    let some = not_empty c.in-Ok.reading.points
    _ (rw c.as_slice.ensures.value at c.is_empty.ensures) c.if-is_empty.false in
    (post_refused c.args.sender.now c.args.body.now c.args.book.now c.admit.new.self
    (tally c.in-Ok.reading) c.in-Err-admit.fault c.in-Ok.ensures some e.err
    (rw c.in-Ok-new.ensures.value at e.fault))
