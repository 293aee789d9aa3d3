-- The fields of a histogram's point, as they are read of its values.
use Rattle.std.specs.Prelude.{if◌then◌else◌, Option, Some, None, option_map}
use Rattle.otlp_read.specs.Fields.{flags_fit, nanos_in}
use Rattle.otlp_read.specs.Lists.{◌>>=◌}
use Rattle.otlp_read.specs.Histograms.{HistogramFields, count_in, total_in}
use Rattle.otlp_protobuf.specs.declared.histogram_point.HistogramPoint.{HistogramPoint}
use Rattle.otlp_protobuf.specs.declared.histograms.HistogramFields.{HistogramFields as Read}
use Rattle.otlp_protobuf.specs.Members.{unsigned_data, double_data}

-- start, end, count and sum of a point
abbrev pub histogram_fields_data : Read → HistogramFields
histogram_fields_data f = record { start = f.start; end = f.end; count = f.count; total = f.total }

-- as `histogram_fields`, of the values
abbrev pub histogram_fields_of : HistogramPoint → Option HistogramFields
histogram_fields_of p = do
  start ← nanos_in (option_map unsigned_data p.start)
  end ← nanos_in (option_map unsigned_data p.end)
  count ← count_in (option_map unsigned_data p.count)
  total ← total_in (option_map double_data p.total)
  if flags_fit (option_map unsigned_data p.flags)
      then Some (record { start = start; end = end; count = count; total = total })
      else None
