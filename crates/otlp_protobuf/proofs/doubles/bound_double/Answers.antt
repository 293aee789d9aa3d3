use Rattle.std.proofs.Common.{w64, arith}
use Rattle.std.proofs.lemmas.Int.{to_z_pos}
use Rattle.otlp_protobuf.proofs.DoubleLemmas.{bound_none, bound_out, bound_above, bound_below}
use Rattle.otlp_protobuf.proofs.DoubleLemmas.{negated}
use Rattle.otlp_protobuf.proofs.doubles.bound_double.Goals as goal

pub returns-in_err-size : goal.returns-in_err-size
returns-in_err-size c = rw c.from_residual.ensures (bound_none c.args.bits c.in_err-size.ensures)

pub returns-then-size-gt-MAX_BOUND : goal.returns-then-size-gt-MAX_BOUND
returns-then-size-gt-MAX_BOUND c =
    bound_out c.args.bits c.in_ok-size.size c.in_ok-size.ensures c.if-size-gt-MAX_BOUND.true

pub returns-then-bits-lt-SIGN : goal.returns-then-bits-lt-SIGN
returns-then-bits-lt-SIGN c =
    rw (to_z_pos w64 c.in_ok-size.size (omega arith))
    (bound_above c.args.bits c.in_ok-size.size c.in_ok-size.ensures c.if-size-gt-MAX_BOUND.false
    c.if-bits-lt-SIGN.true)

pub returns-else-bits-lt-SIGN : goal.returns-else-bits-lt-SIGN
returns-else-bits-lt-SIGN c =
    rw (negated c.in_ok-size.size c.if-size-gt-MAX_BOUND.false)
    (bound_below c.args.bits c.in_ok-size.size c.in_ok-size.ensures c.if-size-gt-MAX_BOUND.false
    c.if-bits-lt-SIGN.false)
