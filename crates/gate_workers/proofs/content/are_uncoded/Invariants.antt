use Rattle.std.proofs.Common.{◌≡◌, drop}
use Rattle.std.specs.List.{list_all}
use Rattle.http_edge.specs.Request.{headers_in}
use Rattle.gate_workers.specs.Requested.{is_uncoded}
use Rattle.gate_workers.proofs.content.are_uncoded.Given as goal

abbrev pub invariant-loop-header : goal.invariant-loop-header
invariant-loop-header l = list_all is_uncoded (headers_in (drop l.header-index l.headers))
    ≡ list_all is_uncoded (headers_in l.headers)
