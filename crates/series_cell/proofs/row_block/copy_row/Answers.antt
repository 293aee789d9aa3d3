use Rattle.std.proofs.Common.{◌≡◌, ◌+◌, ◌-◌, length, ap, sym, ◌∙◌, arith}
use Rattle.series_cell.specs.inner.Rows.{row_size, row_of}
use Rattle.series_cell.proofs.Block.{part, row_is, length_row, written, copied}
use Rattle.series_cell.proofs.row_block.copy_row.Goals as goal

pub returns-clause-rest : goal.returns-clause-rest
returns-clause-rest c = λ k d.
    let ws = c.args.words.now in
    let s = c.row_start-source.result in
    let a = c.row_start-target.result in
    let n = s + c.row_len.result - s in
    let en : n ≡ row_size ws = omega (arith, c.row_len.ensures) in
    let from = ap length (row_is c.args.from s n ws c.row_start-source.ensures.value en)
    ∙ length_row c.args.from ws c.requires.0 in
    let to = ap length (row_is c.args.to a n ws c.row_start-target.ensures.value en)
    ∙ length_row c.args.to ws c.requires.1 in
    ap (row_of k) (c.copy_within.ensures.after ∙ copied ws s a n)
    ∙ (written c.args.to a n ws (part n s ws) c.requires.1 c.row_start-target.ensures.value en
    (from ∙ sym to)).rest k d
