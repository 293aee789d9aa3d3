use Rattle.std.proofs.Common.{codes, refl}
use Rattle.gateway_options.proofs.Given.{given_together}
use Rattle.gateway_options.proofs.Unmeant.{none_served, where_none}
use Rattle.gateway_options.proofs.command_line.options_in.Goals as goal

pub returns-in_err-serve_options-in-Some-clause-none
    : goal.returns-in_err-serve_options-in-Some-clause-none
returns-in_err-serve_options-in-Some-clause-none c =
    let m = c.args.matches.now in
    let given = given_together m (codes "serve") _ (c.in-Some.ensures.found.0 refl)
    c.in-Some.ensures.rows in
    where_none c.from_residual.result
    (none_served _ _ given c.in_err-serve_options-in-Some.ensures.none)
