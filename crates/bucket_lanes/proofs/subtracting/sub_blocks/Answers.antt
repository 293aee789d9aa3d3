use Rattle.std.proofs.Common.{◌≡◌, ◌+◌, ◌*◌, slice_index, arith, ap, ◌∙◌}
use Rattle.bucket_lanes.proofs.Lanes.{below_block}
use Rattle.bucket_lanes.proofs.subtracting.sub_blocks.Goals as goal

pub loop-block-preserved : goal.loop-block-preserved
loop-block-preserved c = record {
  differences = below_block (λ k. slice_index c.sub_block.new.dst k + slice_index c.args.src.now k
      ≡ slice_index c.args.dst.now k) c.loop-block.block
      (λ k lt. ap (λ n. n + slice_index c.args.src.now k)
      (c.sub_block.ensures.before k (omega arith)) ∙ c.loop-block.invariant.differences k lt)
      (λ j lt. c.sub_block.ensures.here j lt
      ∙ c.loop-block.invariant.rest (c.loop-block.block * 8 + j) (omega arith));
  rest = λ k ge. c.sub_block.ensures.after k (omega arith)
      ∙ c.loop-block.invariant.rest k (omega arith);
}
