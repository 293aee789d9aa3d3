use Rattle.std.proofs.Common.{inl, inr, arith}
use Rattle.otlp_protobuf.proofs.DoubleLemmas.{unsigned_none, unsigned_above, unsigned_zero}
use Rattle.otlp_protobuf.proofs.DoubleLemmas.{unsigned_below}
use Rattle.otlp_protobuf.proofs.doubles.unsigned_double.Goals as goal

pub returns-in_err-size : goal.returns-in_err-size
returns-in_err-size c = rw c.from_residual.ensures (unsigned_none c.args.bits c.in_err-size.ensures)

pub returns-then-size-eq0 : goal.returns-then-size-eq0
returns-then-size-eq0 c =
    let size = c.in_ok-size.size in
    elim c.if-size-eq0.either [
      | inl above ↦ unsigned_above c.args.bits size c.in_ok-size.ensures above (omega arith)
      | inr none ↦ unsigned_zero c.args.bits size c.in_ok-size.ensures none.1
    ]

pub returns-else-size-eq0 : goal.returns-else-size-eq0
returns-else-size-eq0 c =
    unsigned_below c.args.bits c.in_ok-size.size c.in_ok-size.ensures c.if-size-eq0.false.1
    c.if-size-eq0.false.0
