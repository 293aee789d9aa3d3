use Rattle.std.proofs.Common.{◌≡◌, ◌-◌, ◌<◌, take}
use Rattle.http_edge.proofs.ReplyLemmas.{HeadSoFar}
use Rattle.http_edge.proofs.response.read_head.Given as goal

abbrev pub invariant-pieces : goal.invariant-pieces
invariant-pieces g l = record {
  so_far : HeadSoFar (g.S.Source.remaining l.fn.source) (g.S.Source.remaining l.source)
      (take l.len l.head);
  within : l.len < 16384;
  well : g.S.Source.failures l.source ≡ g.S.Source.failures l.fn.source;
}

abbrev pub decreases-pieces : goal.decreases-pieces
decreases-pieces g l = 16384 - l.len
