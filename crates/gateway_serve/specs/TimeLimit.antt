-- What is left of a time that a connection has.
use Rattle.std.specs.Prelude.{◌≡◌, ◌-◌, ◌*◌, ◌<◌, ◌≤◌, ℕ, Option, Some, None, Result, IsErr, OnOk}
use Rattle.std.specs.Duration.{as_nanos}
use Rattle.std.specs.Time.{instant_nanos}
use Rattle.std.specs.declared.time.Duration.{Duration}
use Rattle.std.specs.declared.time.Instant.{Instant}
use Rattle.gateway_serve.specs.declared.time_limit.Run.{Run}
use Rattle.gateway_serve.specs.declared.time_limit.TimeLimit.{TimeLimit}
use Rattle.gateway_serve.specs.declared.time_limit.TheConstants.{LEAST_NANOS, STANDS_MILLIS}

-- a limit of so many seconds, which have not begun
abbrev pub IsUnbegun : {M : Type 0} → TimeLimit M → ℕ → Type 0
IsUnbegun limit seconds = (as_nanos limit.whole ≡ seconds * 1_000_000_000) × (limit.run ≡ None)

-- how many nanoseconds lie between two instants
abbrev pub nanos_since : Instant → Instant → ℕ
nanos_since begun now = instant_nanos now - instant_nanos begun

-- since when a limit runs at this instant: it begins now, if it has not begun
abbrev pub begun_at : Option Run → Instant → Instant
begun_at None now = now
begun_at (Some run) now = run.begun

-- what is left of the whole at this instant
abbrev pub left_at : Duration → Option Run → Instant → ℕ
left_at whole run now = as_nanos whole - nanos_since (begun_at run now) now

-- the socket was told just now
abbrev pub IsFresh : Option Run → Instant → Type 0
IsFresh None now = ⊥
IsFresh (Some run) now = nanos_since run.told now < STANDS_MILLIS * 1_000_000

-- what a call answers at this instant, and how the limit runs then. Nothing: the clock fails, or
-- the time is over. No wait: a fresh one stands. Else what is left
abbrev pub IsWait : Duration → Option Run → Option Instant → Option (Option Duration) → Option Run
    → Type 0
IsWait whole run None answer next = (answer ≡ None) × (next ≡ run)
IsWait whole run (Some now) None next = (left_at whole run now < LEAST_NANOS) × (next ≡ run)
IsWait whole run (Some now) (Some None) next =
    (LEAST_NANOS ≤ left_at whole run now) × IsFresh run now × (next ≡ run)
IsWait whole run (Some now) (Some (Some wait)) next =
    (LEAST_NANOS ≤ left_at whole run now) × ¬ (IsFresh run now)
    × (as_nanos wait ≡ left_at whole run now)
    × (next ≡ Some (record { begun = begun_at run now; told = now }))

-- a call of a stream with a limit asks it once, and fails where the time is over; where it has a
-- wait to tell, it goes on only once that was told
abbrev pub IsTimed : {X E : Type 0} → Option (Option Duration) → (Duration → Type 0) → Result X E
    → Type 0
IsTimed None told result = IsErr result
IsTimed (Some None) told result = Unit {0}
IsTimed (Some (Some wait)) told result = OnOk result (told wait)

-- a read or a write of a stream with a limit: one call of the limit, by its own clock
abbrev pub IsTimedCall : {M X E : Type 0} → (M → Option Instant → M → Type 0)
    → (Duration → Type 0) → TimeLimit M → TimeLimit M → Result X E → Type 0
IsTimedCall reads told old new result =
    (now : Option Instant) × (answer : Option (Option Duration)) × reads old.clock now new.clock
    × IsWait old.whole old.run now answer new.run × IsTimed answer told result
