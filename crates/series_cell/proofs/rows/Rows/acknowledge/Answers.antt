use Rattle.std.proofs.Common.{length, ap, ap₂, sym, ◌∙◌, arith}
use Rattle.metric_events.specs.Rows.{add_rows, zeros}
use Rattle.series_cell.proofs.Block.{length_row, held, rows_back}
use Rattle.series_cell.proofs.rows.Rows.acknowledge.Goals as goal

pub returns : goal.returns
returns c =
    let was = held _ _ _ c.deref_mut.ensures.value c.self.view_is in
    rows_back _ _ _ _ _ c.deref_mut.ensures.value c.move_row.auto.words c.self.inside.words.ok.0
    (record {
      accepted = c.move_row.ensures.rest 0 (omega arith) (omega arith) ∙ was.accepted;
      stored = c.move_row.ensures.rest 1 (omega arith) (omega arith) ∙ was.stored;
      in_flight = c.move_row.ensures.none
          ∙ ap zeros (sym (length_row 2 _ (omega arith)) ∙ ap length was.in_flight);
      acknowledged = c.move_row.ensures.sum ∙ ap₂ add_rows was.acknowledged was.in_flight;
      dropped = c.move_row.ensures.rest 4 (omega arith) (omega arith) ∙ was.dropped;
    })
