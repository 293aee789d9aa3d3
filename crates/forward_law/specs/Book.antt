-- What the bytes say that forward a post in protobuf.
use Rattle.std.specs.Prelude.{◌≡◌, ℕ, ◌+◌, List, map, take, Option, Ok}
use Rattle.series_id.specs.Identity.{Identity}
use Rattle.metric_events.specs.DataPoint.{DataPoint}
use Rattle.metric_events.specs.History.{History, ◌▸◌, admits, takes}
use Rattle.metric_events.specs.Points.{admitted}
use Rattle.metric_events.specs.Series.{of_series, merged, series_in_order}
use Rattle.metric_events.specs.Choice.{pick, flush_points, present}
use Rattle.metric_events.specs.declared.accepted.Accepted.{Accepted}
use Rattle.metric_events.specs.declared.event.Event.TheVariants.{Admit, Take}
use Rattle.metric_events.specs.declared.limits.TheConstants.{MAX_TAKEN}
use Rattle.otlp_read.specs.Tallies.{Tally}
use Rattle.otlp_protobuf.specs.Reading.{bytes_reading}
use Rattle.out_texts.specs.Back.{ReadsBack}

-- a batch of these points is the next event
abbrev pub and_admitted : History → List ℕ → List DataPoint → History
and_admitted E sender points =
    E ▸ Admit (admits E + 1) (record { sender = sender; points = points })

-- then a flush of as many series as there may be
abbrev pub and_taken : History → History
and_taken E = E ▸ Take (takes E + 1) (pick E MAX_TAKEN)

-- the points of that flush
abbrev pub taken_points : History → List DataPoint
taken_points E = flush_points (and_taken E) (takes E + 1)

-- the bytes are a request; a book of history E has admitted its points, has taken a flush, and has
-- history F then; read back, the text has just the points of that flush
pub record IsForwarded (E F : History) (sender bytes text : List ℕ) : Type 0 where
  pub post : Tally
  pub said : bytes_reading bytes ≡ Ok (Ok post)
  pub events : F ≡ and_taken (and_admitted E sender post.points)
  pub back : ReadsBack text (taken_points (and_admitted E sender post.points))

-- points as a fresh book has them
abbrev pub alone : List ℕ → List DataPoint → List Accepted
alone sender points = map (admitted 1 sender) points

-- the covering span and the sum of all points of a series
abbrev pub series_sum : List Accepted → Identity → Option DataPoint
series_sum qs x = merged x (of_series x qs)

-- the same of the first series, in series order, as many as a flush may have
abbrev pub series_sums : List Accepted → List DataPoint
series_sums qs = present (map (series_sum qs) (take MAX_TAKEN (series_in_order qs)))

-- the bytes are a request; read back, the text has of each series one point, the sum of those of
-- the request
pub record IsSummed (sender bytes text : List ℕ) : Type 0 where
  pub post : Tally
  pub said : bytes_reading bytes ≡ Ok (Ok post)
  pub back : ReadsBack text (series_sums (alone sender post.points))
