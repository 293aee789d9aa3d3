use Rattle.series_id.proofs.Again.{set_again, bounds_again, identity_again}
use Rattle.series_id.proofs.laws.made_again.Goals as goal

pub returns : goal.returns
returns c = record {
  set = set_again;
  kind = bounds_again;
  identity = identity_again;
}
