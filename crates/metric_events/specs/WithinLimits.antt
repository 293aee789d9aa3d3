-- The limits of every history.
use Rattle.std.specs.Prelude.{◌≡◌, ◌+◌, ◌≤◌, true, length}
use Rattle.series_id.specs.Identity.{Identity}
use Rattle.metric_events.specs.Rows.{fits}
use Rattle.metric_events.specs.History.{History, entries}
use Rattle.metric_events.specs.Points.{points}
use Rattle.metric_events.specs.Running.{open_batches, live_flushes, held_senders, owed}
use Rattle.metric_events.specs.Series.{series_count, sum_of}
use Rattle.metric_events.specs.declared.limits.TheConstants.{MAX_SERIES, MAX_OPEN, MAX_LIVE}
use Rattle.metric_events.specs.declared.limits.TheConstants.{MAX_HELD, MAX_ENTRIES}

-- series, open batches, live flushes and quarantined senders are few; there is room to end them
-- all; sums are within their limits
pub record IsWithinLimits (E : History) : Type 0 where
  pub series : series_count (points E) ≤ MAX_SERIES
  pub batches : length (open_batches E) ≤ MAX_OPEN
  pub flushes : length (live_flushes E) ≤ MAX_LIVE
  pub held : length (held_senders E) ≤ MAX_HELD
  pub room : entries E + owed E ≤ MAX_ENTRIES
  pub sums : (x : Identity) → fits x.kind (sum_of x (points E)) ≡ true
