use Rattle.std.proofs.Common.{◌∙◌, arith}
use Rattle.otlp_protobuf.proofs.after_points.last_after_points.Goals as goal

pub returns : goal.returns
returns c = c.last_of.ensures ∙ c.after_points.ensures c.args.number (λ e. omega arith)
