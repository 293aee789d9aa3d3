use Rattle.std.proofs.Common.{◌+◌, ◌∙◌, ap, sym, refl, drop, map}
use Rattle.std.proofs.lemmas.List.{at_drop_more, drop_all}
use Rattle.clap.specs.Words.{app_of}
use Rattle.gateway_options.specs.CommandLine.{with_numbers}
use Rattle.gateway_options.specs.inner.NumberOption.{described}
use Rattle.gateway_options.proofs.Adding.{added}
use Rattle.gateway_options.proofs.command_line.with_numbers.Goals as goal

pub loop-number-preserved : goal.loop-number-preserved
loop-number-preserved c =
    let at = c.loop-number in
    let numbers = c.args.numbers.now in
    let one_more = added _ _ _ _ _ (refl, at.invariant.own) c.argument.ensures.local
    c.argument.ensures.rule c.in_ok-command.ensures in record {
      own = one_more.1;
      rest =
          ap (λ app. with_numbers app (map described (drop (at.number-index + 1) numbers)))
          one_more.0
          ∙ (sym (at_drop_more (λ left. with_numbers (app_of at.command) (map described left))
          numbers at.number-index _ c.loop-number-test.true)
          ∙ at.invariant.rest);
    }

pub returns : goal.returns
returns c =
    let at = c.loop-number in (
      ap (λ left. with_numbers (app_of at.command) (map described left))
          (sym (drop_all at.number-index c.args.numbers.now c.loop-number-test.false))
          ∙ at.invariant.rest,
      at.invariant.own,
    )
