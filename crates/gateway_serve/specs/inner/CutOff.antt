-- Requests that were refused before all of them was read.
use Rattle.std.specs.Prelude.{◌≡◌, ◌==◌, ◌||◌, ℕ, Bool, false, true, List, Option}
use Rattle.byte_ends.specs.Drained.{IsDrained}
use Rattle.gate_workers.specs.Paced.{Reaching}
use Rattle.gate_workers.specs.Refusals.{refusal_status}
use Rattle.gate_workers.specs.declared.refusal.Refusal.TheVariants as refusal
use Rattle.gate_workers.specs.declared.service.Served.{Served}
use Rattle.gate_workers.specs.declared.service.Served.TheVariants.{Replied}
use Rattle.gate_workers.specs.declared.worker.Spot.{Spot}
use Rattle.gate_workers.specs.declared.worker.Spot.TheVariants.{BodyRead, BeforeSend}
use Rattle.gateway_serve.specs.declared.client_connection.TheConstants.{MOST_REFUSED}
use Rattle.gateway_serve.specs.declared.reading.Reading.{Reading}
use Rattle.gateway_serve.specs.declared.reading.Reading.TheVariants.{Open, Whole}

-- how much of a request was read once its worker was at this spot
abbrev pub reading_at : Spot → Reading → Reading
reading_at BodyRead reading = Whole
reading_at BeforeSend reading = reading

-- how a worker that reaches a spot changes it
abbrev pub IsNoted : Reaching Reading
IsNoted reading spot reading' = reading' ≡ reading_at spot reading

-- the request may have been refused before all of it was read: no more of it is known, and it has
-- the status of such a refusal
abbrev pub is_cut_off : Served → Reading → Bool
is_cut_off (Replied status written end) Open =
    (status == refusal_status refusal.Malformed) || (status == refusal_status refusal.BodyTooLong)
    || (status == refusal_status refusal.NoMemory)
is_cut_off served reading = false

-- what still came is thrown away where the other side was told that all was written; without a
-- failure, all of it, or MOST_REFUSED bytes. Else nothing is read
abbrev pub IsThrownAway : Bool → Option (List ℕ) → Option (List ℕ) → Type 0 → Type 0
IsThrownAway false old new well = new ≡ old
IsThrownAway true old new well = IsDrained old new MOST_REFUSED well

-- the end of a connection whose request was refused: the other side is told that all was written,
-- and what still comes is thrown away
abbrev pub IsLingering : {O : Type 0} → (O → Bool → Type 0) → O → Option (List ℕ)
    → Option (List ℕ) → Type 0 → Type 0
IsLingering shuts_write output old new well =
    (is_told : Bool) × shuts_write output is_told × IsThrownAway is_told old new well
