use Rattle.out_texts.specs.Report.{series_line}
use Rattle.out_texts.proofs.Putting.{put_next}
use Rattle.out_texts.proofs.report.put_report.Goals as goal

pub loop-totals-preserved : goal.loop-totals-preserved
loop-totals-preserved c =
    put_next series_line c.args.rows.now c.loop-totals.totals-index c.totals-item.result
    _ c.args.out.now.items c.loop-totals.out.items c.put_line.new.out.items
    c.loop-totals-test.true c.totals-item.is c.in_ok-put_line.ensures c.loop-totals.invariant
