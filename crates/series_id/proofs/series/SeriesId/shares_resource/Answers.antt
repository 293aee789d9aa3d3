use Rattle.std.proofs.Common.{ap, ◌∙◌}
use Rattle.std.specs.Ordering.{is_eq}
use Rattle.series_id.proofs.Order.{shares_resource-decides}
use Rattle.series_id.proofs.series.SeriesId.shares_resource.Goals as goal

pub returns-clause-exact : goal.returns-clause-exact
returns-clause-exact c = shares_resource-decides c.args.self.now c.args.other.now c.is_eq.result
    (c.is_eq.ensures ∙ ap is_eq c.compare_resource.ensures)
