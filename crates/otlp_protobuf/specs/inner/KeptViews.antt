-- Series that are kept, without the references.
use Rattle.std.specs.Prelude.{ℕ, List, [], Option, Some, None}
use Rattle.std.specs.Borrow.{Bor}
use Rattle.otlp_protobuf.specs.declared.kept_series.KeptSeries.{KeptSeries}
use Rattle.otlp_protobuf.specs.inner.RunViews.{run_messages}

-- the messages of the attributes
abbrev pub kept_messages : Option (Bor KeptSeries) → List (List ℕ)
kept_messages None = []
kept_messages (Some k) = run_messages k.now.run
