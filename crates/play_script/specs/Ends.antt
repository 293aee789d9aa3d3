-- What is read and written.
use Rattle.std.specs.Prelude.{◌≡◌, ℕ, ◌+◌, ◌<◌, ◌≤◌, Bool, true, false, List, ◌++◌, length, Err}
use Rattle.std.specs.Prelude.{Option, Result}
use Rattle.std.specs.Io.KnownBytes.{Appends, Consumes}
use Rattle.play_script.specs.declared.fault.PlayFault.{PlayFault}
use Rattle.play_script.specs.declared.fault.PlayFault.TheVariants.{CannotRead, TooLong, CannotWrite}
use Rattle.play_script.specs.declared.input.TheConstants.{MAX_INPUT, MAX_PIECE}

-- known bytes grow by a front part of the text
abbrev pub AppendsPart : Option (List ℕ) → Option (List ℕ) → List ℕ → Type 0
AppendsPart old new text =
    (part : List ℕ) × (rest : List ℕ) × (part ++ rest ≡ text) × Appends old new part

-- the fault is that of a reader, or of a writer
abbrev pub cannot_read : {T : Type 0} → Result T PlayFault → Bool
cannot_read (Err CannotRead) = true
cannot_read other = false

abbrev pub cannot_write : {T : Type 0} → Result T PlayFault → Bool
cannot_write (Err CannotWrite) = true
cannot_write other = false

-- so many bytes were read of an input, by the outcome: over the limit where it is too long, and
-- there alone
abbrev pub PassesLimit : {T : Type 0} → Result T PlayFault → ℕ → Type 0
PassesLimit (Err TooLong) count = MAX_INPUT < count
PassesLimit other count = count ≤ MAX_INPUT

-- what was read before the last call is within the limit, and so is what was read in all, but where
-- the input is too long: there the last call, of at most a piece, passed the limit, and nothing was
-- read after it
abbrev pub StopsReading : {T : Type 0} → Option (List ℕ) → Option (List ℕ) → ℕ
    → Result T PlayFault → Type 0
StopsReading old new given result =
    (before : List ℕ) × (last : List ℕ) × Consumes old new (before ++ last) × (length last ≡ given)
    × (given ≤ MAX_PIECE) × (length before ≤ MAX_INPUT)
    × PassesLimit result (length before + given)
