-- Runs of a point's attributes: their fields, one after the other.
use Rattle.std.specs.Prelude.{◌≡◌, ◌≤◌, ◌<◌, ◌+◌, ◌%◌, ◌/◌, ◌==◌, if◌then◌else◌, ℕ, Ok}
use Rattle.std.specs.Prelude.{List, [], ◌∷◌, ◌++◌, length, map, take}
use Rattle.otlp_protobuf.specs.declared.schema.Message.{Message}
use Rattle.otlp_protobuf.specs.declared.schema.Message.TheVariants.{KeyValue}
use Rattle.otlp_protobuf.specs.declared.schema.Kind.TheVariants.{Inner}
use Rattle.otlp_protobuf.specs.Wire.{Field, bytes_value, field_at, fields_from, fields}
use Rattle.otlp_protobuf.specs.Fields.{contents}
use Rattle.otlp_protobuf.specs.Schema.{kind_of}
use Rattle.otlp_protobuf.specs.Checks.{checked_from}

-- an attribute of this number
abbrev pub attribute : ℕ → List ℕ → Field
attribute n m = record { number = n; value = bytes_value m }

-- the first bytes are the field of an attribute, whatever comes behind them
pub record IsAttribute (n size : ℕ) (bytes : List ℕ) : Type 0 where
  pub some : 0 < size
  pub fits : size ≤ length bytes
  pub message : List ℕ
  pub says : (rest : List ℕ) → field_at (take size bytes ++ rest) ≡ Ok (attribute n message, rest)

-- bytes that are the field of an attribute, with its message
pub record IsField (n : ℕ) (f : List ℕ × List ℕ) : Type 0 where
  pub some : 0 < length f.0
  pub says : (rest : List ℕ) → field_at (f.0 ++ rest) ≡ Ok (attribute n f.1, rest)

abbrev pub AreFields : ℕ → List (List ℕ × List ℕ) → Type 0
AreFields n [] = Unit {0}
AreFields n (f ∷ fs) = IsField n f × AreFields n fs

abbrev pub run_bytes : List (List ℕ × List ℕ) → List ℕ
run_bytes [] = []
run_bytes (f ∷ fs) = f.0 ++ run_bytes fs

-- the first bytes are so many attributes
pub record IsRun (n size count : ℕ) (bytes : List ℕ) : Type 0 where
  pub few : count ≤ size
  pub fits : size ≤ length bytes
  pub found : List (List ℕ × List ℕ)
  pub are : AreFields n found
  pub all : run_bytes found ≡ take size bytes
  pub counted : length found ≡ count

-- the key of a message's attributes
pub record IsKey (m : Message) (key : ℕ) : Type 0 where
  pub known : 8 ≤ key
  pub short : key < 128
  pub content : key % 8 ≡ 2
  pub is : kind_of m (key / 8) ≡ Inner KeyValue

-- so many fields, which pass the check of a message where so many may come behind them
abbrev pub Passes : Message → List ℕ → ℕ → ℕ → ℕ → Type 0
Passes m run count levels fewest = (left : ℕ) → fewest ≤ left → (rest : List ℕ)
    → checked_from (count + left) levels m (run ++ rest) ≡ checked_from left levels m rest

-- ---- the attributes of a point that are known

-- the other fields
abbrev pub others : ℕ → List Field → List Field
others n [] = []
others n (f ∷ fs) = if f.number == n then others n fs else f ∷ others n fs

-- so many fields, of the attributes that they are by themselves, whatever comes behind them
abbrev pub SaysRun : ℕ → ℕ → List ℕ → Type 0
SaysRun n count run = (left : ℕ) → (rest : List ℕ)
    → fields_from (count + left) (run ++ rest)
    ≡ map (attribute n) (contents n (fields run)) ++ fields_from left rest
