use Rattle.std.proofs.Common.{◌≡◌, drop}
use Rattle.http_edge.specs.Find.{first_in}
use Rattle.http_edge.specs.Request.{headers_in}
use Rattle.http_edge.proofs.request.find_in.Given as goal

abbrev pub invariant-loop-i : goal.invariant-loop-i
invariant-loop-i l =
    first_in l.name (headers_in l.headers) ≡ first_in l.name (headers_in (drop l.i l.headers))
