use Rattle.metric_events.proofs.Priming.{primed_law, primable_law, spared_law, slack_law}
use Rattle.metric_events.proofs.Reopening.{closed_law}
use Rattle.metric_events.proofs.laws.priming.Goals as goal

pub returns : goal.returns
returns c = record {
  primed = primed_law;
  primable = primable_law;
  spared = spared_law;
  slack =
      slack_law;
  closed = closed_law;
}
