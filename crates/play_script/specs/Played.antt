-- What a run of a script writes.
use Rattle.std.specs.Prelude.{◌≡◌, ℕ, ◌<◌, ◌≤◌, true, List, [], ◌++◌, length, Ok, Err, Option}
use Rattle.std.specs.declared.result.Result.{Result}
use Rattle.std.specs.Io.KnownBytes.{Keeps, Appends}
use Rattle.play_script.specs.Pieces.{lines}
use Rattle.play_script.specs.Ends.{AppendsPart}
use Rattle.play_script.specs.Run.{Mark, are_marks, run}
use Rattle.play_script.specs.declared.fault.PlayFault.{PlayFault}
use Rattle.play_script.specs.declared.fault.PlayFault.TheVariants.{CannotRead, TooLong, CannotWrite}
use Rattle.play_script.specs.declared.fault.PlayFault.TheVariants.{NoMemory}
use Rattle.play_script.specs.declared.input.TheConstants.{MAX_INPUT}

-- for some marks all replies were written
abbrev pub WritesAll : Option (List ℕ) → Option (List ℕ) → List (List ℕ) → Type 0
WritesAll old new lines =
    (marks : List Mark) × (are_marks lines marks ≡ true) × Appends old new (run lines marks)

-- for some marks the first bytes of the replies were written
abbrev pub WritesPart : Option (List ℕ) → Option (List ℕ) → List (List ℕ) → Type 0
WritesPart old new lines =
    (marks : List Mark) × (are_marks lines marks ≡ true) × AppendsPart old new (run lines marks)

-- all replies were written to the lines before one that failed
abbrev pub WritesBefore : Option (List ℕ) → Option (List ℕ) → List (List ℕ) → Type 0
WritesBefore old new lines =
    (done : List (List ℕ)) × (later : List (List ℕ)) × (done ++ later ≡ lines)
    × (later ≡ [] → done ≡ []) × WritesAll old new done

-- what was written for a script, by the result: for an input over the limit nothing
abbrev pub IsPlayed : Option (List ℕ) → Option (List ℕ) → List ℕ → Result (Unit {0}) PlayFault
    → Type 0
IsPlayed old new input (Ok x) = (length input ≤ MAX_INPUT) × WritesAll old new (lines input)
IsPlayed old new input (Err CannotRead) = Keeps old new
IsPlayed old new input (Err TooLong) = (MAX_INPUT < length input) × Keeps old new
IsPlayed old new input (Err CannotWrite) =
    (length input ≤ MAX_INPUT) × WritesPart old new (lines input)
IsPlayed old new input (Err NoMemory) =
    (MAX_INPUT < length input → Keeps old new) × WritesBefore old new (lines input)
