-- The data fields of a metric, without the references.
use Rattle.std.specs.Prelude.{map, option_map}
use Rattle.serde_json.specs.View.{view}
use Rattle.otlp_read.specs.declared.metrics.Part.{Part as BorrowedPart}
use Rattle.otlp_read.specs.declared.metrics.Parts.{Parts as BorrowedParts}
use Rattle.otlp_read.specs.Metrics.{Part, Parts}

abbrev pub part_data : BorrowedPart → Part
part_data p = record { whole = view p.whole.now; points = map view p.points.now }

abbrev pub parts_data : BorrowedParts → Parts
parts_data ps = record {
  gauge = option_map part_data ps.gauge;
  sum = option_map part_data ps.sum;
  histogram = option_map part_data ps.histogram;
  exponential = option_map part_data ps.exponential;
  summary = option_map part_data ps.summary;
}
