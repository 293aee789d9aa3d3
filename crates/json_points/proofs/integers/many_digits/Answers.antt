use Rattle.json_points.proofs.DigitLemmas.{read_many}
use Rattle.json_points.proofs.integers.many_digits.Goals as goal

pub returns-in-Ok : goal.returns-in-Ok
returns-in-Ok c =
    read_many c.args.digits.now c.in-Ok.found c.if-has_sign.ensures c.numerals_are_read.ensures
    c.in-Ok.ensures.0 c.in-Ok.ensures.1
