use Rattle.std.proofs.Common.{◌≡◌, ◌+◌, ◌-◌, length, ap, ◌∙◌, arith}
use Rattle.series_cell.specs.inner.Rows.{row_size}
use Rattle.series_cell.proofs.Block.{row_is, length_row, written}
use Rattle.series_cell.proofs.ByPlace.{zero_row_is}
use Rattle.series_cell.proofs.row_block.clear_row.Goals as goal

pub returns : goal.returns
returns c =
    let ws = c.args.words.now in
    let a = c.row_start-start.result in
    let m = a + c.row_len-len.result - a in
    let em : m ≡ row_size ws = omega (arith, c.row_len-len.ensures) in
    let is = row_is c.args.row a m ws c.row_start-start.ensures.value em in
    let w = written c.args.row a m ws c.clear.new.words c.requires
    c.row_start-start.ensures.value em c.clear.auto.words in
    let long : length c.clear.new.words ≡ row_size ws =
    c.clear.auto.words ∙ (ap length is ∙ length_row c.args.row ws c.requires) in
    record {
      none = w.here ∙ zero_row_is (row_size ws) c.clear.new.words long
          (λ k l. c.clear.ensures k (omega (arith, l, long)));
      rest = w.rest;
    }
