use Rattle.std.proofs.Common.{◌≡◌, ◌+◌, ◌*◌, slice_index, arith, ap, ◌∙◌}
use Rattle.bucket_lanes.proofs.Lanes.{below_block}
use Rattle.bucket_lanes.proofs.adding.add_blocks.Goals as goal

pub loop-block-preserved : goal.loop-block-preserved
loop-block-preserved c = record {
  sums = below_block (λ k. slice_index c.add_block.new.dst k
      ≡ slice_index c.args.dst.now k + slice_index c.args.src.now k) c.loop-block.block
      (λ k lt. c.add_block.ensures.before k (omega arith) ∙ c.loop-block.invariant.sums k lt)
      (λ j lt. c.add_block.ensures.here j lt
      ∙ ap (λ n. n + slice_index c.args.src.now (c.loop-block.block * 8 + j))
      (c.loop-block.invariant.rest (c.loop-block.block * 8 + j) (omega arith)));
  rest = λ k ge. c.add_block.ensures.after k (omega arith)
      ∙ c.loop-block.invariant.rest k (omega arith);
}
