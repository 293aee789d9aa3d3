-- The data fields of a metric, from their bytes.
use Rattle.std.specs.Prelude.{ℕ, List, map, Option, Some, None, option_map}
use Rattle.serde_json.specs.Data.{Data}
use Rattle.otlp_read.specs.Metrics.{Part, Parts}
use Rattle.otlp_protobuf.specs.declared.metrics.Parts.{Parts as FoundParts}
use Rattle.otlp_protobuf.specs.Wire.{fields}
use Rattle.otlp_protobuf.specs.Fields.{contents, whole_at}
use Rattle.otlp_protobuf.specs.Points.{number_point, histogram_point}
use Rattle.otlp_protobuf.specs.Request.{other_message, other_point, sum_message, histogram_message}
use Rattle.otlp_protobuf.specs.inner.Views.{whole_data}

-- a data field whose message and points are these in JSON
abbrev pub part_of : (List ℕ → Data) → (List ℕ → Data) → Option (List ℕ) → Option Part
part_of whole point found =
    option_map (λ b. record { whole = whole b; points = map point (contents 1 (fields b)) }) found

abbrev pub other_part : Option (List ℕ) → Option Part
other_part = part_of other_message other_point

abbrev pub sum_part : Option (List ℕ) → Option Part
sum_part = part_of sum_message number_point

abbrev pub histogram_part : Option (List ℕ) → Option Part
histogram_part = part_of histogram_message histogram_point

-- those that were found
abbrev pub parts_data : FoundParts → Parts
parts_data ps = record {
  gauge = other_part (whole_data ps.gauge);
  sum = sum_part (whole_data ps.sum);
  histogram = histogram_part (whole_data ps.histogram);
  exponential = other_part (whole_data ps.exponential);
  summary = other_part (whole_data ps.summary);
}

-- those of a metric
abbrev pub message_parts : List ℕ → Parts
message_parts bytes = record {
  gauge = other_part (whole_at 5 bytes);
  sum = sum_part (whole_at 7 bytes);
  histogram = histogram_part (whole_at 9 bytes);
  exponential = other_part (whole_at 10 bytes);
  summary = other_part (whole_at 11 bytes);
}

-- 1 for a data field that is present
abbrev pub one_if : Option (List ℕ) → ℕ
one_if None = 0
one_if (Some b) = 1
