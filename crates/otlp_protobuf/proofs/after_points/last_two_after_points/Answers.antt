use Rattle.std.proofs.Common.{◌∙◌, arith}
use Rattle.otlp_protobuf.proofs.after_points.last_two_after_points.Goals as goal

pub returns-clause-one : goal.returns-clause-one
returns-clause-one c =
    c.last_two_of.ensures.one ∙ c.after_points.ensures c.args.one (λ e. omega arith)

pub returns-clause-other : goal.returns-clause-other
returns-clause-other c =
    c.last_two_of.ensures.other ∙ c.after_points.ensures c.args.other (λ e. omega arith)
