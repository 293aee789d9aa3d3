use Rattle.std.proofs.Common.{ap, ◌∙◌}
use Rattle.std.specs.Ordering.{is_eq}
use Rattle.series_id.specs.Kinds.{kind_cmp}
use Rattle.series_id.specs.Totals.{kind_total}
use Rattle.series_id.proofs.Exact.{kind_exact}
use Rattle.series_id.proofs.Order.{tied-decides}
use Rattle.series_id.proofs.kinds.Kind.is_same.Goals as goal

pub returns : goal.returns
returns c = tied-decides kind_cmp kind_total kind_exact c.args.self.now c.args.other.now
    c.is_eq.result (c.is_eq.ensures ∙ ap is_eq c.compare.ensures)
