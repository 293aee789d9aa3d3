use Rattle.std.proofs.Common.{refl}
use Rattle.otlp_read.specs.Tallies.{tally}
use Rattle.otlp_protobuf.specs.Wire.{fields}
use Rattle.otlp_protobuf.specs.Fields.{contents}
use Rattle.otlp_protobuf.proofs.LoopLemmas.{foreign_counted}
use Rattle.otlp_protobuf.proofs.metrics.add_all.Goals as goal

pub returns-in_default : goal.returns-in_default
returns-in_default c whole point = rw (← c.in_default.ensures) refl

pub returns : goal.returns
returns c whole point =
    rw (← c.in-Some.ensures) (foreign_counted point (contents 1 (fields c.in-Some.bytes.now))
    _ _ (tally c.args.out.now) c.count-points.ensures c.saturating_add-out.ensures)
