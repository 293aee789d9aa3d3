use Rattle.std.proofs.Common.{◌≡◌, ◌+◌, ◌-◌, ap, sym, ◌∙◌, arith}
use Rattle.metric_events.specs.Rows.{zeros}
use Rattle.series_cell.specs.inner.Rows.{row_size, row_of}
use Rattle.series_cell.proofs.Block.{length_row, both_written}
use Rattle.series_cell.proofs.ByPlace.{moved}
use Rattle.series_cell.proofs.row_block.move_row.Goals as goal

pub returns-then-from-to : goal.returns-then-from-to
returns-then-from-to c =
    let ws = c.args.words.now in
    let a = c.row_start-source.result in
    let n = c.row_len-len.result in
    let em : a + n - a ≡ row_size ws = omega (arith, c.row_len-len.ensures) in
    let w = both_written c.args.from c.args.to a c.row_start-target.result (a + n - a) n ws
    c.split_at_mut-front.result.0.now c.split_at_mut-front.result.1.now
    c.move_into.new.src c.move_into.new.dst c.if-from-to.true c.requires.rows.1
    c.row_start-source.ensures.value c.row_start-target.ensures.value em c.row_len-len.ensures
    c.split_at_mut-front.ensures.front c.split_at_mut-front.ensures.back
    c.move_into.auto.src c.move_into.auto.dst in
    let from = length_row c.args.from ws c.requires.rows.0 in
    let m = moved _ _ (row_of c.args.to ws) (row_of c.args.from ws) c.move_into.new.dst
    c.move_into.new.src w.after w.before
    (from ∙ sym (length_row c.args.to ws c.requires.rows.1)) c.move_into.auto.dst
    c.move_into.auto.src c.move_into.ensures.sums c.move_into.ensures.none in
    record {
      sum = w.second ∙ m.0;
      none = w.first ∙ (m.1 ∙ ap zeros from);
      rest = w.rest;
    }

pub returns-else-from-to : goal.returns-else-from-to
returns-else-from-to c =
    let ws = c.args.words.now in
    let a = c.row_start-target.result in
    let n = c.row_len-len.result in
    let em : a + n - a ≡ row_size ws = omega (arith, c.row_len-len.ensures) in
    let w = both_written c.args.to c.args.from a c.row_start-source.result (a + n - a) n ws
    c.split_at_mut-front-else-from-to.result.0.now c.split_at_mut-front-else-from-to.result.1.now
    c.move_into-else-from-to.new.dst c.move_into-else-from-to.new.src
    (omega (arith, c.if-from-to.false, c.requires.apart)) c.requires.rows.0
    c.row_start-target.ensures.value c.row_start-source.ensures.value em c.row_len-len.ensures
    c.split_at_mut-front-else-from-to.ensures.front c.split_at_mut-front-else-from-to.ensures.back
    c.move_into-else-from-to.auto.dst c.move_into-else-from-to.auto.src in
    let from = length_row c.args.from ws c.requires.rows.0 in
    let m = moved _ _ (row_of c.args.to ws) (row_of c.args.from ws) c.move_into-else-from-to.new.dst
    c.move_into-else-from-to.new.src w.before w.after
    (from ∙ sym (length_row c.args.to ws c.requires.rows.1)) c.move_into-else-from-to.auto.dst
    c.move_into-else-from-to.auto.src c.move_into-else-from-to.ensures.sums
    c.move_into-else-from-to.ensures.none in
    record {
      sum = w.first ∙ m.0;
      none = w.second ∙ (m.1 ∙ ap zeros from);
      rest = λ k d f. w.rest k f d;
    }
