-- What a forwarded request says when it is read back.
use Rattle.std.specs.Prelude.{◌≡◌, ℕ, List, map, Some, Ok}
use Rattle.series_id.specs.declared.kinds.Kind.{Kind}
use Rattle.series_id.specs.declared.kinds.Kind.TheVariants.{Sum, Histogram}
use Rattle.metric_events.specs.DataPoint.{DataPoint}
use Rattle.metric_events.specs.Rows.{sum_row, histogram_row, buckets_of}
use Rattle.otlp_read.specs.Reading.{text_reading}
use Rattle.out_texts.specs.Points.{sum_of, total_of}

-- the row that is read back for a row: that of one point with its value, or with its buckets and
-- its sum, if it has one
abbrev pub row_read : Kind → List ℕ → List ℕ
row_read (Sum monotonic) row = sum_row (sum_of row)
row_read (Histogram bounds) row = histogram_row (total_of row) (buckets_of row)

-- the point that is read back for a point: its series, its span, and the row that is read back
abbrev pub point_read : DataPoint → DataPoint
point_read p = record { series = p.series; span = p.span; row = row_read p.series.kind p.row }

-- the bytes are a request with these points, in order, and no foreign one
abbrev pub ReadsBack : List ℕ → List DataPoint → Type 0
ReadsBack bytes ps =
    (metrics : ℕ) × (text_reading bytes ≡ Some (Ok (record {
      points = map point_read ps;
      foreign = 0;
      metrics = metrics;
    })))
