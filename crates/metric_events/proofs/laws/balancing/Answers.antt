use Rattle.metric_events.specs.Points.{points}
use Rattle.metric_events.specs.Running.{held_senders}
use Rattle.metric_events.specs.Series.{series_in_order}
use Rattle.metric_events.proofs.Balance.{all_add_up}
use Rattle.metric_events.proofs.laws.balancing.Goals as goal

pub returns : goal.returns
returns c =
    record { balanced = λ E. all_add_up (points E) (held_senders E) (series_in_order (points E)) }
