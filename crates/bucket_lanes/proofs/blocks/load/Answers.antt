use Rattle.std.proofs.lemmas.Simd.{get_or-chunk}
use Rattle.bucket_lanes.proofs.blocks.load.Goals as goal

pub returns-clause-each : goal.returns-clause-each
returns-clause-each c = λ k lt. get_or-chunk c.args.at 8 c.args.words.now k 0 lt
