use Rattle.std.proofs.Common.{rules, append_assoc}
use Rattle.series_id.specs.inner.Written.{written}
use Rattle.series_id.proofs.written.write_series.Goals as goal

pub returns : goal.returns
unfolding written
returns c = search (rules, append_assoc)
