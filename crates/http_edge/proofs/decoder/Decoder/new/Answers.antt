use Rattle.std.proofs.Common.{sym, subst}
use Rattle.http_edge.specs.Holds.{IsSound}
use Rattle.http_edge.proofs.MachineLemmas.{start_is_sound}
use Rattle.http_edge.proofs.decoder.Decoder.new.Goals as goal

pub invariant_of-result : goal.invariant_of-result
invariant_of-result c = subst IsSound (sym c.new.ensures) start_is_sound
