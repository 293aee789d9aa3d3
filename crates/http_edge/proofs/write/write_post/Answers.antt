use Rattle.std.proofs.Common.{length, ◌∙◌}
use Rattle.std.specs.Prelude.{decimal}
use Rattle.http_edge.proofs.TextLemmas.{sent_post}
use Rattle.http_edge.proofs.write.write_post.Goals as goal

pub returns-clause-text : goal.returns-clause-text
returns-clause-text g c =
    sent_post (g.K.Sink.contents c.args.writer.now) (g.K.Sink.contents c.write_parts.new.sink)
    c.write_parts.result c.as_bytes.result.now c.as_bytes-2.result.now c.args.host.now
    (decimal (length c.args.body.now)) c.args.body.now
    c.as_bytes.ensures.value (c.as_bytes-2.ensures.value ∙ c.format.ensures.text)
    c.write_parts.ensures.text
