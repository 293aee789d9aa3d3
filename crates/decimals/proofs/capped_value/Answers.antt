use Rattle.std.proofs.Common.{ap, ◌∙◌, ◌+◌, ◌*◌, ◌-◌, get_or, min}
use Rattle.decimals.proofs.Digits.{digit_here, number_more}
use Rattle.decimals.proofs.capped_value.Goals as goal

pub loop-digit-preserved : goal.loop-digit-preserved
loop-digit-preserved c =
    let here = digit_here c.args.digits.now c.loop-digit.digit-index c.loop-digit-test.true
    c.loop-digit.invariant.1 in (
      number_more c.args.digits.now c.loop-digit.digit-index c.args.most c.loop-digit.value
          _ c.loop-digit-test.true here.0 c.loop-digit.invariant.0
          (c.min-value.ensures ∙ ap (λ n. min (c.loop-digit.value * 10 + n)
          (c.from-cap.result + 1)) c.from.ensures
          ∙ ap (λ n. min (c.loop-digit.value * 10
          + (get_or c.args.digits.now c.loop-digit.digit-index 0 - 48)) (n + 1))
          c.from-cap.ensures),
      here.1,
    )
