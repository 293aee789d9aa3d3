-- Attributes, single values of them, and the fields of a point, without the references.
use Rattle.std.specs.Prelude.{ℕ, List}
use Rattle.series_id.specs.declared.scalars.Scalar.{Scalar}
use Rattle.series_id.specs.declared.scalars.Scalar.TheVariants as scalars
use Rattle.series_id.specs.declared.values.AttrValue.{AttrValue}
use Rattle.series_id.specs.declared.values.AttrValue.TheVariants.{One}
use Rattle.otlp_read.specs.Sums.{SumFields}
use Rattle.otlp_read.specs.Histograms.{HistogramFields}
use Rattle.json_points.specs.declared.scalar_ref.ScalarRef.{ScalarRef}
use Rattle.json_points.specs.declared.scalar_ref.ScalarRef.TheVariants.{Empty, Truth, Int, Text}
use Rattle.json_points.specs.declared.scalar_ref.PairRef.{PairRef}
use Rattle.json_points.specs.declared.sums.SumFields.{SumFields as Read}
use Rattle.json_points.specs.declared.histograms.HistogramFields.{HistogramFields as ReadHistogram}

-- a single value
abbrev pub scalar_data : ScalarRef → Scalar
scalar_data Empty = scalars.Empty
scalar_data (Truth b) = scalars.Truth b
scalar_data (Int n) = scalars.Int n
scalar_data (Text t) = scalars.Text t.now

-- an attribute with a single value
abbrev pub pair_data : PairRef → (List ℕ × AttrValue)
pair_data p = (p.key.now, One (scalar_data p.value))

-- start, end and value of a sum's point
abbrev pub sum_fields_data : Read → SumFields
sum_fields_data f = record { start = f.start; end = f.end; value = f.value }

-- start, end, count and sum of a histogram's point
abbrev pub histogram_fields_data : ReadHistogram → HistogramFields
histogram_fields_data f = record { start = f.start; end = f.end; count = f.count; total = f.total }
