use Rattle.std.proofs.Common.{arith}
use Rattle.series_cell.proofs.Sizes.{cut_off}
use Rattle.series_cell.proofs.batch_span.drop_first.Goals as goal

pub returns-clause-items : goal.returns-clause-items
returns-clause-items c =
    cut_off c.args.spans.now.items _ _ c.args.count _ c.rotate_left.ensures.items
    c.truncate.ensures.items
    (omega (arith, c.len.ensures, c.rotate_left.ensures.len, c.args.spans.now.ok.0))
