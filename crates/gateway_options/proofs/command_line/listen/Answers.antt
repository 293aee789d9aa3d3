use Rattle.std.proofs.Common.{◌≡◌, ◌∙◌, ap, codes, rules, Some, [], ◌∷◌}
use Rattle.clap.specs.Words.{Rule, new_rule, rule_of}
use Rattle.gateway_options.proofs.command_line.listen.Goals as goal

pub returns-clause-rule : goal.returns-clause-rule
returns-clause-rule c =
    let long : rule_of c.long.result ≡ record (new_rule (codes "listen"))
    { long = Some (codes "listen"); value_names = 1 } = search rules in
    ap rule_of c.default_value.ensures
    ∙ ap (λ (r : Rule). record r { defaults = codes "127.0.0.1:4318" ∷ [] }) long
