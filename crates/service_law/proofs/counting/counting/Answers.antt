use Rattle.service_law.proofs.Totals.{counted_law, in_turn_law}
use Rattle.service_law.proofs.Needed.{needed_law}
use Rattle.service_law.proofs.counting.counting.Goals as goal

pub returns : goal.returns
returns c = record { counted = counted_law; in_turn = in_turn_law; needed = needed_law }
