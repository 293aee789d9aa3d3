use Rattle.std.proofs.Common.{sym, subst, ◌∙◌, arith}
use Rattle.otlp_protobuf.specs.inner.Views.{Gives}
use Rattle.otlp_protobuf.proofs.CheckLemmas.{check_none}
use Rattle.otlp_protobuf.proofs.checks.+checked_from.Goals as goal

pub returns : goal.returns
returns t c =
    subst (Gives (λ done. done) c.ended.result)
    (sym (check_none c.loop-left.left _ _ _ (omega arith)) ∙ c.loop-left.invariant)
    c.ended.ensures
