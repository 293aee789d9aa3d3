-- The parts of a message, one after the other.
use Rattle.std.specs.Prelude.{ℕ, List, [], Option}
use Rattle.otlp_protobuf.specs.Wire.{Field}
use Rattle.otlp_protobuf.specs.Fields.{content_at, joined, with_first}

-- what there is of a message, after a field that may have a part of it
abbrev pub part_with : ℕ → Option (List ℕ) → Field → Option (List ℕ)
part_with n found f = joined found (with_first (content_at n f) [])
