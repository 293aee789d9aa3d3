use Rattle.std.proofs.Common.{sym, ◌∙◌, ap, not, arith}
use Rattle.std.specs.Prelude.{slice_index}
use Rattle.std.proofs.lemmas.Bool.{ltb-true, ltb-false}
use Rattle.metric_events.specs.Rows.{word_limit}
use Rattle.delta_book.specs.inner.Batches.{sum_with}
use Rattle.delta_book.proofs.Words.{all_within, not_within, one_more_within}
use Rattle.delta_book.proofs.limits.has_large_word.Goals as goal

pub returns-then-is_word_large : goal.returns-then-is_word_large
returns-then-is_word_large c = λ b s qs h n.
    let row = sum_with b s c.args.series.now qs c.args.batch.now in
    let limit = word_limit c.args.series.now.kind in
    sym (ap not (not_within limit row c.loop-k.k
    (ltb-true (limit c.loop-k.k) (slice_index row c.loop-k.k)
    (sym (c.is_word_large.ensures b s qs h) ∙ c.if-is_word_large.true))))

pub loop-k-preserved : goal.loop-k-preserved
loop-k-preserved c = λ b s qs h.
    let row = sum_with b s c.args.series.now qs c.args.batch.now in
    let limit = word_limit c.args.series.now.kind in
    one_more_within limit row c.loop-k.k (c.loop-k.invariant b s qs h)
    (ltb-false (limit c.loop-k.k) (slice_index row c.loop-k.k)
    (sym (c.is_word_large.ensures b s qs h) ∙ c.if-is_word_large.false))

pub returns : goal.returns
returns c = λ b s qs h n.
    let row = sum_with b s c.args.series.now qs c.args.batch.now in
    sym (ap not (all_within (word_limit c.args.series.now.kind) row
    (λ k l. c.loop-k.invariant b s qs h k (omega (arith, l, n, c.loop-k-test.false)))))
