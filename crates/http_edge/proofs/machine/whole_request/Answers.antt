use Rattle.std.proofs.Common.{◌∙◌}
use Rattle.http_edge.proofs.FinishLemmas.{message_at_is}
use Rattle.http_edge.proofs.MethodLemmas.{method_is_token}
use Rattle.http_edge.proofs.machine.whole_request.Goals as goal

pub request_of-requires-clause-method : goal.request_of-requires-clause-method
request_of-requires-clause-method c =
    let found = rw c.in-Ok-Some.field-0-is at c.in-Ok-Some.ensures in
    method_is_token c.args.head.now c.look_for_head.new.spans c.in-Ok-Some.found found.0 found.1

pub returns-in_ok-request_of-in-Ok-Some : goal.returns-in_ok-request_of-in-Ok-Some
returns-in_ok-request_of-in-Ok-Some c = λ k is.
    let found = rw c.in-Ok-Some.field-0-is at c.in-Ok-Some.ensures in
    c.in_ok-request_of-in-Ok-Some.ensures
    ∙ message_at_is c.args.head.now c.look_for_head.new.spans c.in-Ok-Some.found k found.0
    c.args.content.items is found.1
