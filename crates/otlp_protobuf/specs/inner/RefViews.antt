-- Single values of attributes, without the references, and by the field that a value has.
use Rattle.std.specs.Prelude.{ℕ, ◌==◌, ◌||◌, not, if◌then◌else◌, List, Option, Some, None}
use Rattle.std.specs.Int.{w64, cast_signed}
use Rattle.series_id.specs.declared.scalars.Scalar.{Scalar}
use Rattle.series_id.specs.declared.scalars.Scalar.TheVariants as scalars
use Rattle.otlp_protobuf.specs.declared.scalar_ref.ScalarRef.{ScalarRef}
use Rattle.otlp_protobuf.specs.declared.scalar_ref.ScalarRef.TheVariants.{Empty, Truth, Int, Text}
use Rattle.otlp_protobuf.specs.Wire.{Value, Field}
use Rattle.otlp_protobuf.specs.Fields.{bits, text_of}

-- a single value
abbrev pub scalar_data : ScalarRef → Scalar
scalar_data Empty = scalars.Empty
scalar_data (Truth b) = scalars.Truth b
scalar_data (Int n) = scalars.Int n
scalar_data (Text t) = scalars.Text t.now

-- a text; empty is what is none
abbrev pub text_scalar : Option (List ℕ) → Scalar
text_scalar None = scalars.Empty
text_scalar (Some t) = scalars.Text t

-- the single value of a field, if it has one
abbrev pub scalar_at : ℕ → Value → Option Scalar
scalar_at n v =
    if n == 1 then Some (text_scalar (text_of v))
    else (if n == 2 then Some (scalars.Truth (not (bits v == 0)))
    else (if n == 3 then Some (scalars.Int (cast_signed w64 (bits v)))
    else (if n == 4 || n == 5 || n == 6 || n == 7 then None else Some scalars.Empty)))

abbrev pub scalar_chosen : Option Field → Option Scalar
scalar_chosen None = Some scalars.Empty
scalar_chosen (Some f) = scalar_at f.number f.value
