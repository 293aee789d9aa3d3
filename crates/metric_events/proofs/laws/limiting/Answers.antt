use Rattle.metric_events.proofs.Fits.{sums_fit}
use Rattle.metric_events.proofs.Room.{kept_room}
use Rattle.metric_events.proofs.WithinLimits.{few_series, few_open, few_live, few_held}
use Rattle.metric_events.proofs.laws.limiting.Goals as goal

pub returns : goal.returns
returns c = record {
  within = λ E l. record {
    series = few_series E l;
    batches = few_open E l;
    flushes = few_live E l;
    held = few_held E l;
    room = kept_room E l;
    sums = sums_fit E l;
  };
}
