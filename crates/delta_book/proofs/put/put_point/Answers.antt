use Rattle.std.proofs.Common.{◌∙◌, ℕ, List, sym, ap, arith}
use Rattle.std.specs.Prelude.{slice_index}
use Rattle.metric_events.specs.Rows.{add_rows}
use Rattle.metric_events.proofs.Sums.{added_at}
use Rattle.delta_book.proofs.Adding.{word_fits}
use Rattle.delta_book.proofs.put.put_point.Goals as goal

pub put-requires-clause-fits : goal.put-requires-clause-fits
put-requires-clause-fits c = λ k l.
    let row = c.accepted.result.now in
    let more = c.row.result.now in
    omega (
      arith,
      word_fits c.kind.result.now (add_rows row more) k
          (sym c.is_within.ensures ∙ c.if-not-is_within.false),
      added_at row more k,
      ap (λ (r : List ℕ). slice_index r k) c.accepted.ensures,
      ap (λ (r : List ℕ). slice_index r k) c.row.ensures.value,
    )
