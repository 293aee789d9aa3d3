use Rattle.std.proofs.Common.{arith, ◌∙◌}
use Rattle.http_edge.proofs.ReplyLemmas.{long_head, begins_with_reply}
use Rattle.http_edge.proofs.response.look_for_reply.Goals as goal

pub returns-else-buf-lt-MAX_HEAD : goal.returns-else-buf-lt-MAX_HEAD
returns-else-buf-lt-MAX_HEAD c =
    let none = rw c.in-Ok-Partial.field-0-is at c.in-Ok-Partial.ensures.partial in
    (tt, long_head c.args.buf.now none (omega arith), λ e. cc)

pub returns-in-Ok-Complete : goal.returns-in-Ok-Complete
returns-in-Ok-Complete c =
    let found = rw c.in-Ok-Complete.field-0-is at c.in-Ok-Complete.ensures.complete in
    let within = rw c.in-Ok-Complete.field-0-is at c.in-Ok-Complete.ensures.within in
    begins_with_reply c.args.buf.now c.parse_response.new.headers c.in-Ok-Complete.head found.0
    _ found.1 within.section c.requires (omega (arith, c.parse_response.auto.headers))
    c.first_value-retry_after.ensures
