use Rattle.metric_events.proofs.Marks.{marked}
use Rattle.metric_events.proofs.laws.marking.Goals as goal

pub returns : goal.returns
returns c = record { marks = marked }
