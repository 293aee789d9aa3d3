use Rattle.std.proofs.lemmas.Result.{err_from_is_err_and}
use Rattle.http_edge.specs.inner.WriteBuffer.{waiting_bytes}
use Rattle.http_edge.proofs.WriteBufferLemmas.{passes_at_once, cut_at_once}
use Rattle.http_edge.proofs.write_buffer.WriteBuffer.put.Goals as goal

pub returns-in_err-self-clause-cut : goal.returns-in_err-self-clause-cut
returns-in_err-self-clause-cut g c =
    let p = err_from_is_err_and c.from_residual-in_err-self.result
    c.from_residual-in_err-self.ensures.1 in
    rw (p.1, p.2) (cut_at_once (g.K.Sink.contents c.args.sink.now)
    (g.K.Sink.contents c.flush.new.sink) (g.K.Sink.contents c.send.new.sink)
    c.args.self.now.sent c.flush.new.self (waiting_bytes c.args.self.now) c.args.part.now
    c.in_err-self.field-0.0
    c.in_ok-flush.ensures.passes c.in_ok-flush.ensures.none c.in_err-self.ensures.cut)

pub returns-clause-passes : goal.returns-clause-passes
returns-clause-passes g c =
    passes_at_once (g.K.Sink.contents c.args.sink.now) (g.K.Sink.contents c.flush.new.sink)
    (g.K.Sink.contents c.send.new.sink) c.args.self.now.sent c.flush.new.self
    _ (waiting_bytes c.args.self.now) c.args.part.now
    c.in_ok-flush.ensures.passes c.in_ok-flush.ensures.none c.in_ok-flush.ensures.none
    c.in_ok-self.ensures.all.0 c.in_ok-self.ensures.all.1
