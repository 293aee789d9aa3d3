-- The fields of an object that are no containers: texts, booleans, flags, the temporality, times.
use Rattle.std.specs.Prelude.{ℕ, ◌-◌, ◌^◌, ◌%◌, List, [], length, Bool, true, false, ◌==◌, nat_le}
use Rattle.std.specs.Prelude.{if◌then◌else◌, Option, Some, None, option_and_then}
use Rattle.serde_json.specs.Data.{Data, null}
use Rattle.serde_json.specs.Find.{get, as_str, as_bool, as_number, as_u64}
use Rattle.series_id.specs.declared.limits.TheConstants.{MAX_TEXT}
use Rattle.otlp_read.specs.Integers.{unsigned_in, unsigned_64}

-- null counts as absent
abbrev pub present : Option Data → Option Data
present (Some null) = None
present found = found

-- the member of this name, if it is present; a value that is no object has none
unfoldable pub field : List ℕ → Data → Option Data
field name d = present (get name d)

-- a text within the limit
abbrev pub if_short : Option (List ℕ) → Option (List ℕ)
if_short None = None
if_short (Some s) = if nat_le (length s) MAX_TEXT then Some s else None

-- a name, version or unit: a text within the limit; absent is the empty one
unfoldable pub text_in : Option Data → Option (List ℕ)
text_in None = Some []
text_in (Some d) = if_short (as_str d)

-- isMonotonic: true or false; absent is false
unfoldable pub truth_in : Option Data → Option Bool
truth_in None = Some false
truth_in (Some d) = as_bool d

-- an even number
abbrev pub is_even : Option ℕ → Bool
is_even None = false
is_even (Some n) = n % 2 == 0

-- flags: 32 bits, the lowest of them, "no recorded value", not set; absent is 0
unfoldable pub flags_fit : Option Data → Bool
flags_fit None = true
flags_fit (Some d) = is_even (unsigned_in (2 ^ 32 - 1) d)

-- the number 1
abbrev pub is_one : Option ℕ → Bool
is_one None = false
is_one (Some n) = n == 1

-- aggregationTemporality is the number 1 (delta); enums are numbers in OTLP's JSON
unfoldable pub is_delta : Option Data → Bool
is_delta None = false
is_delta (Some d) = is_one (option_and_then as_u64 (as_number d))

-- startTimeUnixNano and timeUnixNano: nanoseconds since the epoch, of 64 bits, never absent
unfoldable pub nanos_in : Option Data → Option ℕ
nanos_in found = option_and_then unsigned_64 found
