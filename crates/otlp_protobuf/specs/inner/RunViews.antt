-- Known attributes, without the references.
use Rattle.std.specs.Prelude.{◌≡◌, ℕ, ◌++◌, List, [], Option, Some, None}
use Rattle.std.specs.Borrow.{Bor}
use Rattle.otlp_protobuf.specs.declared.known_run.KnownRun.{KnownRun}
use Rattle.otlp_protobuf.specs.declared.others.Seen.{Seen}
use Rattle.otlp_protobuf.specs.declared.others.Seen.TheVariants as seen
use Rattle.otlp_protobuf.specs.Wire.{fields}
use Rattle.otlp_protobuf.specs.Fields.{contents}

-- their messages
abbrev pub run_messages : KnownRun → List (List ℕ)
run_messages k = contents k.number (fields k.bytes.items)

abbrev pub messages_of : Option (Bor KnownRun) → List (List ℕ)
messages_of None = []
messages_of (Some k) = run_messages k.now

-- all messages are those that were seen, of which these are known, and those after them; or nothing
-- is known of them
abbrev pub Sees : List (List ℕ) → Seen → List (List ℕ) → List (List ℕ) → Type 0
Sees known seen.None after all = after ≡ all
Sees known seen.Run after all = known ++ after ≡ all
Sees known seen.Others after all = Unit {0}
