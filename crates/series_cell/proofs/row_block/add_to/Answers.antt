use Rattle.std.proofs.Common.{◌≡◌, ◌+◌, ◌-◌, length, ap, ◌∙◌, arith}
use Rattle.metric_events.specs.Rows.{add_rows}
use Rattle.series_cell.specs.inner.Rows.{row_size}
use Rattle.series_cell.proofs.Block.{part, row_is, length_row, written}
use Rattle.series_cell.proofs.ByPlace.{sum_row_is}
use Rattle.series_cell.proofs.row_block.add_to.Goals as goal

pub returns : goal.returns
returns c =
    let ws = c.args.words.now in
    let a = c.row_start-start.result in
    let m = a + length c.args.more.now - a in
    let em : m ≡ row_size ws = omega (arith, c.requires.same) in
    let is = row_is c.args.row a m ws c.row_start-start.ensures.value em in
    let w = written c.args.row a m ws c.add_into.new.dst c.requires.row
    c.row_start-start.ensures.value em c.add_into.auto.dst in
    record {
      sum = w.here
          ∙ (sum_row_is (part m a ws) c.args.more.now c.add_into.new.dst c.add_into.auto.dst
          (omega (arith, c.requires.same, ap length is, length_row c.args.row ws c.requires.row))
          c.add_into.ensures ∙ ap (λ r. add_rows r c.args.more.now) is);
      rest = w.rest;
    }
