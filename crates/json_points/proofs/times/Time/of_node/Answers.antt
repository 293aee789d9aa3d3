use Rattle.std.proofs.Common.{◌∙◌}
use Rattle.json_points.specs.inner.Nodes.{data_at}
use Rattle.json_points.proofs.TimeLemmas.{number_of_text}
use Rattle.json_points.proofs.times.Time.of_node.Goals as goal

pub returns-in-Some : goal.returns-in-Some
returns-in-Some c = c.of_text.ensures
    ∙ number_of_text (data_at c.args.node.now) c.in-Some.text.now c.in-Some.ensures
