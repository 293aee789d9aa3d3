use Rattle.std.proofs.Common.{refl, Some}
use Rattle.gateway_serve.proofs.backend.BackendUplink.send.Goals as goal

pub returns : goal.returns
returns g c =
    let e = c.exchange.ensures in (
      Some (c.in-Some.reader, c.in-Some.writer),
      c.in-Some.ensures,
      (c.exchange.new.reader, c.exchange.new.writer, e.0, e.1, e.2, e.3),
      refl,
    )
