use Rattle.std.proofs.Common.{ap, ◌∙◌, arith}
use Rattle.metric_events.specs.Rows.{add_rows}
use Rattle.series_cell.proofs.Block.{held, rows_back}
use Rattle.series_cell.proofs.rows.Rows.add.Goals as goal

pub returns : goal.returns
returns c =
    let was = held _ _ _ c.as_mut_slice-words.ensures.value c.self.view_is in
    rows_back _ _ _ _ _ c.as_mut_slice-words.ensures.value
    (c.add_to-2.auto.words ∙ c.add_to.auto.words) c.self.inside.words.ok.0
    (record {
      accepted = c.add_to-2.ensures.rest 0 (omega arith)
          ∙ (c.add_to.ensures.sum ∙ ap (λ r. add_rows r c.args.more.now) was.accepted);
      stored = c.add_to-2.ensures.sum
          ∙ ap (λ r. add_rows r c.args.more.now)
          (c.add_to.ensures.rest 1 (omega arith) ∙ was.stored);
      in_flight = c.add_to-2.ensures.rest 2 (omega arith)
          ∙ (c.add_to.ensures.rest 2 (omega arith) ∙ was.in_flight);
      acknowledged = c.add_to-2.ensures.rest 3 (omega arith)
          ∙ (c.add_to.ensures.rest 3 (omega arith) ∙ was.acknowledged);
      dropped = c.add_to-2.ensures.rest 4 (omega arith)
          ∙ (c.add_to.ensures.rest 4 (omega arith) ∙ was.dropped);
    })
