use Rattle.std.proofs.Common.{ap, ◌∙◌}
use Rattle.std.specs.Ordering.{is_eq}
use Rattle.series_id.proofs.Order.{shares_stream-decides}
use Rattle.series_id.proofs.series.SeriesId.shares_stream.Goals as goal

pub returns-clause-exact : goal.returns-clause-exact
returns-clause-exact c =
    shares_stream-decides _ _ c.is_eq.result (c.is_eq.ensures ∙ ap is_eq c.compare_stream.ensures)
