use Rattle.service_law.proofs.Bookkeeping.{posted_law, recovered_law}
use Rattle.service_law.proofs.Flushing.{settled_law, quarantined_law, lifted_law}
use Rattle.service_law.proofs.Taking.{taken_law, several_law}
use Rattle.service_law.proofs.Flying.{flying_law, written_law, committed_law, given_back_law}
use Rattle.service_law.proofs.Starting.{opened_law, primed_law, started_law}
use Rattle.service_law.proofs.books.booking.Goals as goal

pub returns : goal.returns
returns c = record {
  opened = opened_law;
  primed = primed_law;
  started = started_law;
  posted = posted_law;
  written = written_law;
  taken = taken_law;
  several = several_law;
  flying = flying_law;
  committed = committed_law;
  given_back = given_back_law;
  settled = settled_law;
  quarantined = quarantined_law;
  lifted = lifted_law;
  recovered = recovered_law;
}
