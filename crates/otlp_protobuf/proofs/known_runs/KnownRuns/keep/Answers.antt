use Rattle.std.proofs.Common.{◌/◌, arith}
use Rattle.otlp_protobuf.proofs.RunLemmas.{front_passes}
use Rattle.otlp_protobuf.proofs.known_runs.KnownRuns.keep.Goals as goal

pub invariant_of-kept : goal.invariant_of-kept
invariant_of-kept c = record {
  passes = front_passes (c.in-Some.key / 8) c.run_at-size.result.0 c.run_at-size.result.1
      c.args.left c.args.levels c.args.message c.args.bytes.now c.in-Ok.copy.items
      c.run_at-size.ensures
      c.in-Ok.ensures.items (omega arith) c.in-Some.ensures.is c.requires;
}
