use Rattle.std.proofs.Common.{ap, sym, ◌∙◌, arith}
use Rattle.series_cell.specs.inner.Rows.{row_of}
use Rattle.series_cell.proofs.Block.{held, block_back, rows_back}
use Rattle.series_cell.proofs.ByPlace.{differences_are}
use Rattle.series_cell.proofs.rows.Rows.sub.Goals as goal

pub returns-clause-accepted : goal.returns-clause-accepted
returns-clause-accepted c =
    let was = held _ _ _ c.as_mut_slice-words.ensures.value c.self.view_is in
    let back = block_back _ _ _ _ c.as_mut_slice-words.ensures.value
    (c.take_from-2.auto.words ∙ c.take_from.auto.words) c.self.inside.words.ok.0 in
    differences_are _ _ _ _ _ was.accepted
    (sym (c.take_from-2.ensures.rest 0 (omega arith)) ∙ ap (row_of 0) (sym back))
    c.take_from.ensures.difference

pub returns-clause-stored : goal.returns-clause-stored
returns-clause-stored c =
    let was = held _ _ _ c.as_mut_slice-words.ensures.value c.self.view_is in
    let back = block_back _ _ _ _ c.as_mut_slice-words.ensures.value
    (c.take_from-2.auto.words ∙ c.take_from.auto.words) c.self.inside.words.ok.0 in
    differences_are _ _ _ _ _ (c.take_from.ensures.rest 1 (omega arith) ∙ was.stored)
    (ap (row_of 1) (sym back)) c.take_from-2.ensures.difference

pub returns-clause-rest : goal.returns-clause-rest
returns-clause-rest c =
    let was = held _ _ _ c.as_mut_slice-words.ensures.value c.self.view_is in
    let back = block_back _ _ _ _ c.as_mut_slice-words.ensures.value
    (c.take_from-2.auto.words ∙ c.take_from.auto.words) c.self.inside.words.ok.0 in
    rows_back _ _ _ _ _ c.as_mut_slice-words.ensures.value
    (c.take_from-2.auto.words ∙ c.take_from.auto.words) c.self.inside.words.ok.0
    (record {
      accepted = ap (row_of 0) (sym back);
      stored = ap (row_of 1) (sym back);
      in_flight = c.take_from-2.ensures.rest 2 (omega arith)
          ∙ (c.take_from.ensures.rest 2 (omega arith) ∙ was.in_flight);
      acknowledged = c.take_from-2.ensures.rest 3 (omega arith)
          ∙ (c.take_from.ensures.rest 3 (omega arith) ∙ was.acknowledged);
      dropped = c.take_from-2.ensures.rest 4 (omega arith)
          ∙ (c.take_from.ensures.rest 4 (omega arith) ∙ was.dropped);
    })
