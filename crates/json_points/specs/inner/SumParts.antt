-- The fields of a sum's point, as they were found.
use Rattle.std.specs.Prelude.{◌≡◌, Bool, not, ◌&&◌, if◌then◌else◌, Option, Some, None}
use Rattle.std.specs.Prelude.{is_some, codes}
use Rattle.serde_json.specs.Data.{Data}
use Rattle.otlp_read.specs.Fields.{field, flags_fit, nanos_in}
use Rattle.otlp_read.specs.Lists.{◌>>=◌}
use Rattle.otlp_read.specs.Sums.{SumFields, number_in}
use Rattle.json_points.specs.inner.Slots.{slot_data}
use Rattle.json_points.specs.declared.sums.SumParts.{SumParts}

-- these are the fields of this value
pub record HasParts (parts : SumParts) (d : Data) : Type 0 where
  pub start : slot_data parts.start ≡ field (codes "startTimeUnixNano") d
  pub end : slot_data parts.end ≡ field (codes "timeUnixNano") d
  pub value : slot_data parts.value ≡ field (codes "asInt") d
  pub flags : slot_data parts.flags ≡ field (codes "flags") d
  pub double : slot_data parts.double ≡ field (codes "asDouble") d
  pub attributes : slot_data parts.attributes ≡ field (codes "attributes") d

-- a recorded value, and not a double
abbrev pub is_whole : SumParts → Bool
is_whole p = flags_fit (slot_data p.flags) && not (is_some (slot_data p.double))

-- start, end and value of the point
unfoldable pub said_by : SumParts → Option SumFields
said_by p = do
  start ← nanos_in (slot_data p.start)
  end ← nanos_in (slot_data p.end)
  value ← number_in (slot_data p.value)
  if is_whole p then Some (record { start = start; end = end; value = value }) else None
