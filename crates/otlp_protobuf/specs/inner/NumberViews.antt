-- Numbers that are still to come, and whole doubles that fit 64 bits.
use Rattle.std.specs.Prelude.{ℕ, ◌^◌, ◌++◌, nat_lt, if◌then◌else◌, List, Option, Some, None}
use Rattle.std.specs.Prelude.{option_and_then}
use Rattle.otlp_protobuf.specs.declared.numbers.Numbers.{Numbers}
use Rattle.otlp_protobuf.specs.Doubles.{whole_size}
use Rattle.otlp_protobuf.specs.Fields.{packed, numbers}
use Rattle.otlp_protobuf.specs.inner.Views.{fields_data}

-- those of the field that is under way, and those of the fields behind it
abbrev pub numbers_data : Numbers → List ℕ
numbers_data s = packed s.packed.now ++ numbers s.number (fields_data s.rest)

-- a number of 64 bits
abbrev pub if_below : ℕ → Option ℕ
if_below n = if nat_lt n (2 ^ 64) then Some n else None

abbrev pub small_size : ℕ → Option ℕ
small_size size = option_and_then if_below (whole_size size)
