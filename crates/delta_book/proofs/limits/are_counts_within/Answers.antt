use Rattle.std.proofs.Common.{◌∙◌, ◌-◌, sym, ap, not, sum, arith}
use Rattle.std.proofs.lemmas.Bool.{lt-ltb}
use Rattle.metric_events.specs.Rows.{add_rows}
use Rattle.metric_events.specs.declared.limits.TheConstants.{MAX_COUNT}
use Rattle.delta_book.proofs.Within.{same_le, sum_added}
use Rattle.delta_book.proofs.Words.{le-not_lt}
use Rattle.delta_book.proofs.limits.are_counts_within.Goals as goal

pub returns-then-count-most : goal.returns-then-count-most
returns-then-count-most c =
    let all = sum (add_rows c.args.row.now c.args.more.now) in
    sym (le-not_lt all MAX_COUNT ∙ ap not
    (lt-ltb MAX_COUNT all (omega (
      arith,
      sum_added c.args.row.now c.args.more.now,
      c.total-count.ensures,
      c.if-count-most.true,
      c.from-most.ensures,
    ))))

pub returns : goal.returns
returns c =
    let row = c.args.row.now in
    let more = c.args.more.now in
    same_le c.total.result (c.from-most.result - c.total-count.result) (sum (add_rows row more))
    MAX_COUNT
    (λ h. omega (
      arith,
      h,
      sum_added row more,
      c.total.ensures,
      c.total-count.ensures,
      c.from-most.ensures,
      c.if-count-most.false,
    ))
    (λ h. omega (
      arith,
      h,
      sum_added row more,
      c.total.ensures,
      c.total-count.ensures,
      c.from-most.ensures,
      c.if-count-most.false,
    ))
