use Rattle.play_script.specs.inner.Views.{words_of_each}
use Rattle.play_script.proofs.Answering.{point_refused, batch_refused}
use Rattle.play_script.proofs.calls.admit.Goals as goal

pub returns-in-Err : goal.returns-in-Err
returns-in-Err c = (point_refused c.args.sender.now (words_of_each c.args.lines.now) c.args.book.now
    c.in-Err.fault c.in-Err.ensures.fault)

pub returns-in-Err-admit : goal.returns-in-Err-admit
returns-in-Err-admit c =
    let e = c.in-Err-admit.ensures in
    (batch_refused c.args.sender.now (words_of_each c.args.lines.now) c.args.book.now
    c.admit.new.self c.in-Err-admit.fault c.in-Ok-make_points.ensures.none e.err
    (rw (c.in-Ok.ensures.value, c.in-Ok-make_points.ensures.value) at e.fault))
