use Rattle.std.proofs.Common.{length}
use Rattle.otlp_read.specs.Tallies.{tally}
use Rattle.json_points.proofs.MetricLemmas.{foreign_counted}
use Rattle.json_points.proofs.metrics.add_foreign.Goals as goal

pub returns : goal.returns
returns c ds has = foreign_counted (length ds) _ _ (tally c.args.out.now)
    (c.count-points.ensures ds has) c.saturating_add-out.ensures
