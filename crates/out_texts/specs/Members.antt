-- Members that may be absent.
use Rattle.std.specs.Prelude.{ℕ, List, Option, Some, None}
use Rattle.serde_json.specs.Data.{Data, Members, member}

-- the member of this key before others, if it has a value
abbrev pub member_if : List ℕ → Option Data → Members → Members
member_if key None ms = ms
member_if key (Some d) ms = member key d ms
