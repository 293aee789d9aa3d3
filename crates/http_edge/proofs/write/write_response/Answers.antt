use Rattle.std.proofs.Common.{[], length, ◌∙◌, refl}
use Rattle.std.specs.Prelude.{decimal, unwrap_or, codes}
use Rattle.http.specs.StatusCode.{code_digits, reason_phrase}
use Rattle.http_edge.proofs.TextLemmas.{sent_response}
use Rattle.http_edge.proofs.write.write_response.Goals as goal

pub returns-in-None-clause-text : goal.returns-in-None-clause-text
returns-in-None-clause-text g c =
    let status = c.args.status in
    rw c.in-None.is (sent_response (g.K.Sink.contents c.args.writer.now)
    (g.K.Sink.contents c.write_head.new.writer) c.write_head.result c.as_bytes-code.result.now
    c.as_bytes-phrase.result.now c.as_bytes-kind.result.now c.as_bytes-size.result.now [] []
    (code_digits status) (unwrap_or (reason_phrase status) []) c.args.content_type.now
    (decimal (length c.args.body.now)) [] c.args.body.now
    (c.as_bytes-code.ensures.value ∙ c.as_str.ensures)
    (c.as_bytes-phrase.ensures.value ∙ c.phrase_of.ensures.value) c.as_bytes-kind.ensures.value
    (c.as_bytes-size.ensures.value ∙ c.format.ensures.text) refl c.write_head.ensures.text)

pub returns-in-Some-clause-text : goal.returns-in-Some-clause-text
returns-in-Some-clause-text g c =
    let status = c.args.status in
    rw c.in-Some.is (sent_response (g.K.Sink.contents c.args.writer.now)
    (g.K.Sink.contents c.write_head-in-Some.new.writer) c.write_head-in-Some.result
    c.as_bytes-code.result.now c.as_bytes-phrase.result.now c.as_bytes-kind.result.now
    c.as_bytes-size.result.now (codes "\r\nAllow: ") c.as_bytes-methods.result.now
    (code_digits status) (unwrap_or (reason_phrase status) []) c.args.content_type.now
    (decimal (length c.args.body.now)) c.in-Some.methods.now c.args.body.now
    (c.as_bytes-code.ensures.value ∙ c.as_str.ensures)
    (c.as_bytes-phrase.ensures.value ∙ c.phrase_of.ensures.value) c.as_bytes-kind.ensures.value
    (c.as_bytes-size.ensures.value ∙ c.format.ensures.text) c.as_bytes-methods.ensures.value
    c.write_head-in-Some.ensures.text)
