use Rattle.std.proofs.Common.{◌≡◌, ◌*◌, ◌-◌, ◌^◌, ◌%◌, ap, sym, ◌∙◌, arith}
use Rattle.std.proofs.lemmas.Nat.{one_shl}
use Rattle.otlp_protobuf.specs.Doubles.{exponent, digits}
use Rattle.otlp_protobuf.proofs.DoubleLemmas.{no_size, too_low, too_high, within, exact, broken}
use Rattle.otlp_protobuf.proofs.doubles.small_size.Goals as goal
use Rattle.otlp_protobuf.proofs.doubles.small_size.Goals.{then-exponent-lt1023-via-then-exponent-lt1023}
use Rattle.otlp_protobuf.proofs.doubles.small_size.Goals.{then-exponent-lt1023-via-else-exponent-lt1023+then-exponent-gt1086}

pub returns-then-size-eq0 : goal.returns-then-size-eq0
returns-then-size-eq0 c = sym (no_size c.args.size c.if-size-eq0.true)

pub returns-then-exponent-lt1023 : goal.returns-then-exponent-lt1023
returns-then-exponent-lt1023 c = elim c.then-exponent-lt1023.branch [
  | then-exponent-lt1023-via-then-exponent-lt1023 w ↦
      sym (too_low c.args.size c.if-size-eq0.false w.if-exponent-lt1023.true)
  | then-exponent-lt1023-via-else-exponent-lt1023+then-exponent-gt1086 w ↦
      sym (too_high c.args.size c.if-size-eq0.false w.if-exponent-gt1086.true)
]

pub returns-then-exponent-ge1075 : goal.returns-then-exponent-ge1075
returns-then-exponent-ge1075 c =
    sym (within c.args.size c.if-size-eq0.false c.if-exponent-ge1075.true
    c.if-exponent-gt1086.false)

pub returns-then-digits-behind-eq0 : goal.returns-then-digits-behind-eq0
returns-then-digits-behind-eq0 c =
    let size = c.args.size in
    let k = 1075 - exponent size in
    let shift : 1 * 2 ^ k % 2 ^ 64 ≡ 2 ^ k = one_shl k 64 (omega arith) in
    sym (exact size c.if-size-eq0.false c.if-exponent-lt1023.false c.if-exponent-ge1075.false
    (ap (λ m. digits size % m) (sym shift) ∙ c.if-digits-behind-eq0.true))

pub returns-else-digits-behind-eq0 : goal.returns-else-digits-behind-eq0
returns-else-digits-behind-eq0 c =
    let size = c.args.size in
    let k = 1075 - exponent size in
    let shift : 1 * 2 ^ k % 2 ^ 64 ≡ 2 ^ k = one_shl k 64 (omega arith) in
    sym (broken size c.if-size-eq0.false c.if-exponent-lt1023.false c.if-exponent-ge1075.false
    (λ e. c.if-digits-behind-eq0.false (ap (λ m. digits size % m) shift ∙ e)))
