use Rattle.std.proofs.Common.{◌≡◌, Some, ap, sym, ◌∙◌, option_copied, rules}
use Rattle.std.specs.Option.{option_and_then}
use Rattle.back_answers.specs.declared.answer.Answer.TheVariants.{Retryable}
use Rattle.back_answers.specs.Delay.{delay_seconds}
use Rattle.back_answers.proofs.Delays.{wait_exactly}
use Rattle.back_answers.proofs.rules.classify.Goals as goal

pub returns-in-429-clause-waits : goal.returns-in-429-clause-waits
returns-in-429-clause-waits c n =
    let w = wait_exactly (option_copied c.args.retry_after) n in
    let r : c.and_then.result ≡ option_and_then delay_seconds (option_copied c.args.retry_after) =
    search rules in (
      λ e. let same : c.and_then.result ≡ Some n = cc in
          (c.in-429.is, w.0 (sym r ∙ same)),
      λ h. ap Retryable (r ∙ w.1 h.1),
    )
