use Rattle.std.proofs.Common.{length, sym, ◌∙◌}
use Rattle.std.proofs.lemmas.Bool.{eqb-true}
use Rattle.otlp_protobuf.proofs.RunLemmas.{none_left}
use Rattle.otlp_protobuf.proofs.checks.rest_of_point.Goals as goal

pub returns-then-is_empty : goal.returns-then-is_empty
returns-then-is_empty c =
    sym c.after_known-left.ensures ∙ none_left c.after_known-left.result.1 c.args.levels
    c.args.message c.after_known-left.result.0.now
    (eqb-true (length c.after_known-left.result.0.now) 0 (sym c.if-is_empty.ensures))
