use Rattle.std.proofs.Common.{◌≡◌, ◌++◌, take}
use Rattle.std.specs.List.{flat_map}
use Rattle.out_texts.specs.Report.{series_line}
use Rattle.out_texts.proofs.report.put_report.Given as goal

abbrev pub invariant-loop-totals : goal.invariant-loop-totals
invariant-loop-totals l =
    l.out.items ≡ l.fn.out.items ++ flat_map series_line (take l.totals-index l.rows)
