use Rattle.std.proofs.Common.{◌≡◌, [], map, subst, refl, true}
use Rattle.clap.specs.Words.{HasKind, fault_of, is_simple, is_simple_and_free, subcommand_of}
use Rattle.clap.specs.Words.{subcommand_rows_of}
use Rattle.gateway_options.specs.CommandLine.{IsGiven}
use Rattle.gateway_options.proofs.Unmeant.{residual_refused}
use Rattle.gateway_options.proofs.command_line.options.Goals as goal

pub returns-in_err-matches-clause-refused : goal.returns-in_err-matches-clause-refused
returns-in_err-matches-clause-refused c =
    let words = map (λ s. s.now) c.args.words.now in
    let kinds = subst (λ a. is_simple_and_free a ≡ true
    → HasKind (fault_of a words) c.in_err-matches.field-0.0) c.in_ok-command.ensures
    c.in_err-matches.ensures.kinds refl in
    residual_refused words c.in_err-matches.field-0.0 c.from_residual-in_err-matches.result kinds
    c.from_residual-in_err-matches.ensures.1

pub returns-in-Some-clause-meant : goal.returns-in-Some-clause-meant
returns-in-Some-clause-meant c =
    let words = map (λ s. s.now) c.args.words.now in
    let m = c.in_ok-matches.matches in
    let taken = subst (λ a. is_simple_and_free a ≡ true → fault_of a words ≡ [])
    c.in_ok-command.ensures c.in_ok-matches.ensures.kinds refl in
    let given = subst (λ a. is_simple a ≡ true → subcommand_rows_of m ≡ subcommand_of a words)
    c.in_ok-command.ensures (λ simple. (c.in_ok-matches.ensures.ok.2 simple).1) refl in
    (taken, subst (λ g. IsGiven g c.in-Some.options) given c.in-Some.ensures.given)
