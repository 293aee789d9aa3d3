use Rattle.std.proofs.Common.{◌≡◌, map, take}
use Rattle.httparse.specs.Spans.{header_bytes}
use Rattle.http_edge.specs.Request.{headers_in}
use Rattle.http_edge.proofs.request.copy_headers.Given as goal

abbrev pub invariant-loop-header : goal.invariant-loop-header
invariant-loop-header l =
    headers_in l.copies.items ≡ map (header_bytes l.buf) (take l.header-index l.headers)
