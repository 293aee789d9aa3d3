-- The points that are made of a series, a span and what was measured.
use Rattle.std.specs.Prelude.{ℕ, ℤ, List, Option}
use Rattle.series_id.specs.Identity.{Identity}
use Rattle.metric_events.specs.DataPoint.{DataPoint}
use Rattle.metric_events.specs.Rows.{sum_row, histogram_row}
use Rattle.metric_events.specs.PointFaults.{bounds_of, given_buckets}

-- the point of a sum with this value
abbrev pub point_of_sum : Identity → ℕ → ℕ → ℤ → DataPoint
point_of_sum series start end value = record {
  series = series;
  span = record { start = start; end = end };
  row = sum_row value;
}

-- the point of a histogram with this count, this sum, if there is one, and these buckets
abbrev pub point_of_histogram : Identity → ℕ → ℕ → ℕ → Option ℕ → List ℕ → DataPoint
point_of_histogram series start end count total buckets = record {
  series = series;
  span = record { start = start; end = end };
  row = histogram_row total (given_buckets (bounds_of series.kind) count buckets);
}
