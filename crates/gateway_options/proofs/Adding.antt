-- What a command is once arguments of its own alone are added to it.
use Rattle.std.proofs.Common.{◌≡◌, ◌∙◌, ◌||◌, ap₂, false}
use Rattle.clap.specs.Words.{AddsArg, App, Rule, rule_of, with_rule}
use Rattle.clap.specs.declared.builder.arg.Arg.{Arg}
use Rattle.clap.specs.declared.builder.command.Command.{Command}
use Rattle.gateway_options.specs.inner.CommandLine.{IsCommand}

-- one argument more
pub added : (old new : Command) (a : Arg) (app : App) (rule : Rule) → IsCommand app old
    → a.global ≡ false → rule_of a ≡ rule → AddsArg old a new → IsCommand (with_rule app rule) new
added old new a app rule own local is adds =
    (adds.shape local ∙ ap₂ with_rule own.0 is, adds.globals ∙ ap₂ (λ x y. x || y) own.1 local)
