-- What the bytes of a request say, and what `read_request_with` returns.
use Rattle.std.specs.Prelude.{◌≡◌, ℕ, List, Result, Ok, Err, ⊤}
use Rattle.otlp_read.specs.declared.place.Place.{Place}
use Rattle.otlp_read.specs.declared.reading.Reading.{Reading}
use Rattle.otlp_read.specs.Tallies.{Tally, tally}
use Rattle.otlp_read.specs.Reading.{reading}
use Rattle.otlp_protobuf.specs.declared.malformed.Malformed.{Malformed}
use Rattle.otlp_protobuf.specs.declared.fault.ReadFault.{ReadFault}
use Rattle.otlp_protobuf.specs.declared.fault.ReadFault.TheVariants as faults
use Rattle.otlp_protobuf.specs.declared.schema.Message.TheVariants.{Request}
use Rattle.otlp_protobuf.specs.Wire.{◌>>=◌}
use Rattle.otlp_protobuf.specs.Checks.{checked}
use Rattle.otlp_protobuf.specs.Request.{request_message}

-- what the request reads as in JSON, as `otlp_read` defines it; or the first fault of its bytes
unfoldable pub bytes_reading : List ℕ → Result (Result Tally Place) Malformed
bytes_reading bytes = checked Request bytes >>= λ _. Ok (reading (request_message bytes))

-- what `read_request_with` returns
abbrev pub Answers : List ℕ → Result Reading ReadFault → Type 0
Answers bytes (Ok r) = bytes_reading bytes ≡ Ok (Ok (tally r))
Answers bytes (Err (faults.Malformed why)) = bytes_reading bytes ≡ Err why
Answers bytes (Err faults.NoMemory) = ⊤
