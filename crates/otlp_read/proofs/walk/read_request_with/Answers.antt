use Rattle.serde_json.specs.View.{view}
use Rattle.otlp_read.proofs.TextLemmas.{says, says_nothing, answers}
use Rattle.otlp_read.proofs.walk.read_request_with.Goals as goal

pub returns-in-Err-2 : goal.returns-in-Err-2
returns-in-Err-2 c =
    says_nothing c.args.bytes.now (c.in-Err.ensures.err
    (λ memory. let told = c.is_memory.ensures.1 memory in let untold = c.if-is_memory.false in
    cc))

pub returns : goal.returns
returns c =
    let text = c.in-Ok.ensures.ok in
    answers c.args.bytes.now (view c.in-Ok.value) c.read_value.result
    (says c.args.bytes.now (view c.in-Ok.value) text.0 text.1) c.read_value.ensures
