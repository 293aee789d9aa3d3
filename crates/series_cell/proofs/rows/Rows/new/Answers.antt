use Rattle.std.proofs.Common.{◌≡◌, ◌*◌, length, ap, arith}
use Rattle.metric_events.proofs.Sums.{length-zeros}
use Rattle.series_cell.proofs.Block.{zero_rows_are}
use Rattle.series_cell.proofs.rows.Rows.new.Goals as goal

pub returns : goal.returns
returns c =
    let n = c.saturating_mul.result in
    let some : n ≡ c.args.len * 5 = omega (
      arith,
      c.saturating_mul.ensures,
      c.in_ok-words.words.ok,
      c.in_ok-words.words.small,
      ap length c.in_ok-words.ensures,
      length-zeros n,
    ) in
    zero_rows_are c.args.len n _ c.in_ok-words.ensures some
