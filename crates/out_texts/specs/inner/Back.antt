-- A value and its text.
use Rattle.std.specs.Prelude.{◌≡◌, ℕ, List, Some, IsUtf8}
use Rattle.serde_json.specs.Data.{Data}
use Rattle.serde_json.specs.Read.{read}

-- the value is read from the bytes
abbrev pub IsTextOf : Data → List ℕ → Type 0
IsTextOf d bytes = IsUtf8 bytes × (read bytes ≡ Some d)
