-- The fields of a sum's point, as they are read of its values.
use Rattle.std.specs.Prelude.{not, ◌&&◌, if◌then◌else◌, Option, Some, None, option_map, is_some}
use Rattle.otlp_read.specs.Fields.{flags_fit, nanos_in}
use Rattle.otlp_read.specs.Lists.{◌>>=◌}
use Rattle.otlp_read.specs.Sums.{SumFields, number_in}
use Rattle.otlp_protobuf.specs.declared.number_point.NumberPoint.{NumberPoint}
use Rattle.otlp_protobuf.specs.declared.sums.SumFields.{SumFields as Read}
use Rattle.otlp_protobuf.specs.Members.{unsigned_data, signed_data}

-- start, end and value of a point
abbrev pub sum_fields_data : Read → SumFields
sum_fields_data f = record { start = f.start; end = f.end; value = f.value }

-- as `sum_fields`, of the values
abbrev pub sum_fields_of : NumberPoint → Option SumFields
sum_fields_of p = do
  start ← nanos_in (option_map unsigned_data p.start)
  end ← nanos_in (option_map unsigned_data p.end)
  value ← number_in (option_map signed_data p.int)
  if flags_fit (option_map unsigned_data p.flags) && not (is_some p.double)
      then Some (record { start = start; end = end; value = value })
      else None
