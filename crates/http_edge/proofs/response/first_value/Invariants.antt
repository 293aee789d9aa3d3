use Rattle.std.proofs.Common.{◌≡◌, [], take, map}
use Rattle.httparse.specs.Spans.{header_bytes}
use Rattle.http_edge.specs.Framing.{values_of}
use Rattle.http_edge.proofs.response.first_value.Given as goal

abbrev pub invariant-loop-header : goal.invariant-loop-header
invariant-loop-header l =
    values_of l.name (map (header_bytes l.buf) (take l.header-index l.headers)) ≡ []
