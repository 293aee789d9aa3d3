use Rattle.std.proofs.Common.{◌≡◌, ℕ, List}
use Rattle.http_edge.specs.Holds.{most_to_come}
use Rattle.http_edge.proofs.ReadLemmas.{Fed}
use Rattle.http_edge.proofs.read.read_message.Given as goal

abbrev pub invariant-pieces : goal.invariant-pieces
invariant-pieces g l = record {
  so_far : (fed : List ℕ)
      × Fed (g.S.Source.remaining l.fn.source) (g.S.Source.remaining l.source) l.decoder fed;
  well : g.S.Source.failures l.source ≡ g.S.Source.failures l.fn.source;
}

abbrev pub decreases-pieces : goal.decreases-pieces
decreases-pieces g l = most_to_come l.decoder
