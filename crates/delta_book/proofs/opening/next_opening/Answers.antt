use Rattle.std.proofs.Common.{◌∙◌}
use Rattle.metric_events.specs.Points.{points}
use Rattle.metric_events.specs.Running.{held_senders}
use Rattle.delta_book.proofs.Handing.{next_is}
use Rattle.delta_book.proofs.opening.next_opening.Goals as goal

pub returns : goal.returns
returns c E cells held opened batches flushes =
    next_is E c.new-2.result c.args.before.now c.args.batches c.args.flushes c.new.result opened
    (c.new-2.ensures ∙ (c.in_ok-held.ensures ∙ held)) batches flushes
    (c.new.ensures ∙ c.in_ok-series.ensures (held_senders E) (points E) cells)
