use Rattle.std.proofs.Common.{◌≡◌, ◌/◌, length, ap, sym, ◌∙◌, arith}
use Rattle.metric_events.specs.Rows.{zeros}
use Rattle.series_cell.specs.inner.Rows.{row_size}
use Rattle.series_cell.proofs.Block.{length_row, held, rows_back}
use Rattle.series_cell.proofs.rows.Rows.carry.Goals as goal

pub returns : goal.returns
returns c =
    let was = held _ _ _ c.as_mut_slice-words.ensures.value c.self.view_is in
    let once : row_size c.copy_row.new.words ≡ row_size c.as_mut_slice-words.result.now =
    ap (λ n. n / 5) c.copy_row.auto.words in
    let twice : row_size c.clear_row.new.words ≡ row_size c.as_mut_slice-words.result.now =
    ap (λ n. n / 5) c.clear_row.auto.words ∙ once in
    rows_back _ _ _ _ _ c.as_mut_slice-words.ensures.value
    (c.clear_row-2.auto.words ∙ (c.clear_row.auto.words ∙ c.copy_row.auto.words))
    c.self.inside.words.ok.0
    (record {
      accepted = c.clear_row-2.ensures.rest 0 (omega arith)
          ∙ (c.clear_row.ensures.rest 0 (omega arith) ∙ (c.copy_row.ensures.copy ∙ was.stored));
      stored = c.clear_row-2.ensures.rest 1 (omega arith)
          ∙ (c.clear_row.ensures.rest 1 (omega arith)
          ∙ (c.copy_row.ensures.rest 1 (omega arith) ∙ was.stored));
      in_flight = c.clear_row-2.ensures.rest 2 (omega arith)
          ∙ (c.clear_row.ensures.rest 2 (omega arith)
          ∙ (c.copy_row.ensures.rest 2 (omega arith) ∙ was.in_flight));
      acknowledged = c.clear_row-2.ensures.rest 3 (omega arith)
          ∙ (c.clear_row.ensures.none
          ∙ ap zeros (once ∙ (sym (length_row 3 _ (omega arith)) ∙ ap length was.acknowledged)));
      dropped = c.clear_row-2.ensures.none
          ∙ ap zeros (twice ∙ (sym (length_row 4 _ (omega arith)) ∙ ap length was.dropped));
    })
