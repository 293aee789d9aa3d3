use Rattle.std.proofs.Common.{◌≡◌, length, arith}
use Rattle.std.proofs.lemmas.Simd.{get_or-put_chunk_at, get_or-put_chunk_below}
use Rattle.std.proofs.lemmas.Simd.{get_or-put_chunk_above}
use Rattle.bucket_lanes.proofs.blocks.store.Goals as goal

pub returns-clause-here : goal.returns-clause-here
returns-clause-here c = λ k lt.
    let long : length c.args.block ≡ 8 = c.requires.long in
    get_or-put_chunk_at c.args.at c.args.words.now c.args.block k 0 (omega arith)
    (omega (arith, c.requires.room))

pub returns-clause-before : goal.returns-clause-before
returns-clause-before c =
    λ k lt. get_or-put_chunk_below c.args.at c.args.words.now c.args.block k 0 lt

pub returns-clause-after : goal.returns-clause-after
returns-clause-after c = λ k ge.
    let long : length c.args.block ≡ 8 = c.requires.long in
    get_or-put_chunk_above c.args.at c.args.words.now c.args.block k 0 (omega arith)
