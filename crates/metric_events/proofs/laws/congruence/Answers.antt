use Rattle.metric_events.proofs.Congruence.{congruence_law}
use Rattle.metric_events.proofs.Lighter.{lighter_law}
use Rattle.metric_events.proofs.CongruentClose.{closed_alike}
use Rattle.metric_events.proofs.Replaying.{replayed_law}
use Rattle.metric_events.proofs.Interleaving.{interleaved_law}
use Rattle.metric_events.proofs.Recalling.{recalled_law}
use Rattle.metric_events.proofs.Lives.{lives_law, agree_alike}
use Rattle.metric_events.proofs.BothWays.{both_ways_law}
use Rattle.metric_events.proofs.laws.congruence.Goals as goal

pub returns : goal.returns
returns c = record {
  congruence = congruence_law;
  lighter = lighter_law;
  closed =
      closed_alike;
  rounds = lives_law;
  replayed = replayed_law;
  interleaved =
      interleaved_law;
  recalled = recalled_law;
  agreed = agree_alike;
  both_ways = both_ways_law;
}
