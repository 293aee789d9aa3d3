use Rattle.std.proofs.Common.{Ok, ap, sym, ◌∙◌}
use Rattle.std.proofs.lemmas.Result.{on_ok_weaker}
use Rattle.otlp_read.specs.Metrics.{add_all}
use Rattle.otlp_read.specs.Tallies.{Tally, tally}
use Rattle.json_points.specs.inner.Nodes.{data_at}
use Rattle.json_points.proofs.MetricLemmas.{foreign_alone}
use Rattle.json_points.proofs.metrics.foreign_metric.Goals as goal

pub returns : goal.returns
returns c =
    let gauge = c.in_ok-add_part.ensures in
    let exponential = c.in_ok-add_part-2.ensures in
    on_ok_weaker c.add_part-3.result (λ summary scope.
    foreign_alone scope (data_at c.args.node.now) gauge.0 exponential.0 summary.0
    (tally c.args.out.now) c.requires.sum c.requires.histogram gauge.1 exponential.1 summary.1
    ∙ ap (λ (t : Tally). Ok t) (sym (summary.2
    ∙ ap (add_all summary.0) (exponential.2
    ∙ ap (add_all exponential.0) (gauge.2 ∙ ap (add_all gauge.0) c.add_metric.ensures)))))
    c.add_part-3.ensures
