-- What the rules of other crates allow.
use Rattle.std.specs.Prelude.{Option, Some, None}

-- a value, unless it breaks a rule
abbrev pub unless : {F A : Type 0} → Option F → A → Option A
unless None x = Some x
unless (Some fault) x = None
