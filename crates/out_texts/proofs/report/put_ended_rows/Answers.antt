use Rattle.std.proofs.Common.{codes}
use Rattle.out_texts.proofs.Putting.{put_three}
use Rattle.out_texts.specs.Report.{ended_rows}
use Rattle.out_texts.specs.Rows.{labeled_row}
use Rattle.out_texts.proofs.report.put_ended_rows.Goals as goal

pub returns : goal.returns
unfolding ended_rows
returns c =
    let t = c.args.totals.now in
    put_three c.put_labeled_row-3.result c.args.out.now.items
    (labeled_row (codes " accepted ") t.accepted)
    (labeled_row (codes " acknowledged ") t.acknowledged)
    (labeled_row (codes " dropped ") t.dropped) _ _ _ c.in_ok-put_labeled_row.ensures
    c.in_ok-put_labeled_row-2.ensures c.put_labeled_row-3.ensures
