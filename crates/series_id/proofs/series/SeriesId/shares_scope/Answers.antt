use Rattle.std.proofs.Common.{ap, ◌∙◌}
use Rattle.std.specs.Ordering.{is_eq}
use Rattle.series_id.proofs.Order.{shares_scope-decides}
use Rattle.series_id.proofs.series.SeriesId.shares_scope.Goals as goal

pub returns-clause-exact : goal.returns-clause-exact
returns-clause-exact c =
    shares_scope-decides _ _ c.is_eq.result (c.is_eq.ensures ∙ ap is_eq c.compare_scope.ensures)
