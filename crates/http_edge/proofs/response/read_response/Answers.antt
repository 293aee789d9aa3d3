use Rattle.std.proofs.Common.{Ok, take}
use Rattle.http_edge.specs.Reply.{reply_in}
use Rattle.http_edge.proofs.ReplyLemmas.{begins-append, explains_more, read_not_open, read_says}
use Rattle.http_edge.proofs.response.read_response.Goals as goal

pub returns-in-Ok-Some-clause-says : goal.returns-in-Ok-Some-clause-says
returns-in-Ok-Some-clause-says g c =
    let looks = rw c.in-Ok-Some.field-0-is at c.in-Ok-Some.ensures in
    read_says _ _ c.in-Ok.len c.read_head.new.head (Ok c.in-Ok-Some.reply) c.in-Ok.ensures.whole
    (λ more. begins-append (take c.in-Ok.len c.read_head.new.head) more
    (reply_in c.in-Ok-Some.reply) looks)
