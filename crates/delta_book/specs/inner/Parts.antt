-- What of the points of a batch is put: all of each point, or its span alone.
use Rattle.std.specs.Prelude.{ℕ, List, map}
use Rattle.metric_events.specs.DataPoint.{DataPoint}
use Rattle.metric_events.specs.Rows.{zeros}
use Rattle.series_id.specs.Identity.{row_length}
use Rattle.delta_book.specs.declared.cells.Fill.{Fill}
use Rattle.delta_book.specs.declared.cells.Fill.TheVariants.{Point, SpanOnly}

-- the point's words, or as many zeros
abbrev pub row_of : Fill → DataPoint → List ℕ
row_of Point p = p.row
row_of SpanOnly p = zeros (row_length p.series.kind)

-- the point, or the point without its words
abbrev pub part_of : Fill → DataPoint → DataPoint
part_of fill p = record { series = p.series; span = p.span; row = row_of fill p }

-- the same of each point
abbrev pub parts_of : Fill → List DataPoint → List DataPoint
parts_of fill ps = map (part_of fill) ps
