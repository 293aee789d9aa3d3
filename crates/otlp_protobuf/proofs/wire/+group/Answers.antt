use Rattle.std.proofs.Common.{sym, ◌∙◌, arith}
use Rattle.otlp_protobuf.proofs.WireLemmas.{group_none}
use Rattle.otlp_protobuf.proofs.wire.+group.Goals as goal

pub returns : goal.returns
returns t c = sym c.loop-left.invariant ∙ group_none c.loop-left.left _ _ _ (omega arith)
