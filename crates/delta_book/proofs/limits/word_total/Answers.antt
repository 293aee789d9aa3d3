use Rattle.std.proofs.Common.{arith}
use Rattle.delta_book.proofs.Words.{word-with}
use Rattle.delta_book.proofs.limits.word_total.Goals as goal

pub returns-clause-value : goal.returns-clause-value
returns-clause-value c = λ b s qs h. omega (
  arith,
  c.accepted_word.ensures.value qs h,
  c.batch_word.ensures.value,
  word-with
      c.args.series.now c.args.k b s qs c.args.batch.now,
)
