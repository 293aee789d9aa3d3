use Rattle.service_law.proofs.Adding.{goes_on_law, sums_law, in_turn_law}
use Rattle.service_law.proofs.Coming.{again_law, lost_law}
use Rattle.service_law.proofs.Replays.{replayed_law}
use Rattle.service_law.proofs.runs.running.Goals as goal

pub returns : goal.returns
returns c = record {
  sums = sums_law;
  goes_on = goes_on_law;
  in_turn = in_turn_law;
  again =
      again_law;
  lost = lost_law;
  replayed = replayed_law;
}
