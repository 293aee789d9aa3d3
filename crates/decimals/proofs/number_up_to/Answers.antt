use Rattle.std.proofs.Common.{◌+◌, ◌<◌, get_or, take, ◌∙◌, arith}
use Rattle.std.proofs.lemmas.Grind.{common_steps}
use Rattle.std.specs.Int.{IsInRange}
use Rattle.std.specs.Str.Parse.{digits_value}
use Rattle.decimals.proofs.Digits.{value_more, too_large}
use Rattle.decimals.proofs.number_up_to.Goals as goal

pub returns-in_err-checked_mul : goal.returns-in_err-checked_mul
returns-in_err-checked_mul c =
    let digit : IsInRange 48 57 (get_or c.args.digits.now c.loop-digit.digit-index 0) =
    c.if-not-is_ascii_digit.ensures.cases in
    let more = value_more c.args.digits.now c.loop-digit.digit-index c.loop-digit.value
    c.loop-digit-test.true digit c.loop-digit.invariant.value in
    let over : c.args.most < digits_value 10
    (take (c.loop-digit.digit-index + 1) c.args.digits.now) = omega (arith, more) in
    c.from_residual.ensures
    ∙ too_large c.args.digits.now (c.loop-digit.digit-index + 1) c.args.most over

pub returns-in_err-value : goal.returns-in_err-value
returns-in_err-value c =
    let digit : IsInRange 48 57 (get_or c.args.digits.now c.loop-digit.digit-index 0) =
    c.if-not-is_ascii_digit.ensures.cases in
    let more = value_more c.args.digits.now c.loop-digit.digit-index c.loop-digit.value
    c.loop-digit-test.true digit c.loop-digit.invariant.value in
    let over : c.args.most < digits_value 10
    (take (c.loop-digit.digit-index + 1) c.args.digits.now) = omega (arith, more) in
    c.from_residual-in_err-value.ensures
    ∙ too_large c.args.digits.now (c.loop-digit.digit-index + 1) c.args.most over

pub loop-digit-preserved : goal.loop-digit-preserved
loop-digit-preserved c =
    let digit : IsInRange 48 57 (get_or c.args.digits.now c.loop-digit.digit-index 0) =
    c.if-not-is_ascii_digit.ensures.cases in
    let more = value_more c.args.digits.now c.loop-digit.digit-index c.loop-digit.value
    c.loop-digit-test.true digit c.loop-digit.invariant.value in
    record {
      value = omega (arith, more);
      rest = grind (arith, common_steps);
    }
