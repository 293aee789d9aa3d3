-- What a run has written so far.
use Rattle.std.specs.Prelude.{ℕ, List, Ok, Err, Option, Result}
use Rattle.std.specs.Io.KnownBytes.{Keeps, Appends}
use Rattle.metric_events.specs.History.{History}
use Rattle.play_script.specs.Pieces.{lines}
use Rattle.play_script.specs.Commands.{Asked}
use Rattle.play_script.specs.Ends.{AppendsPart}
use Rattle.play_script.specs.inner.Answered.{IsReply}
use Rattle.play_script.specs.declared.fault.PlayFault.{PlayFault}
use Rattle.play_script.specs.declared.fault.PlayFault.TheVariants.{CannotWrite, NoMemory}
use Rattle.play_script.specs.Played.{WritesAll, WritesPart, WritesBefore}

-- a line got its answer, for some mark. All of it was written, or its first bytes where the writer
-- failed; out of memory nothing was
abbrev pub LineIsAnswered : History → Asked → History → Option (List ℕ) → Option (List ℕ)
    → Result (Unit {0}) PlayFault → Type 0
LineIsAnswered E asked F old new (Ok x) =
    (text : List ℕ) × IsReply E asked text F × Appends old new text
LineIsAnswered E asked F old new (Err CannotWrite) =
    (text : List ℕ) × IsReply E asked text F × AppendsPart old new text
LineIsAnswered E asked F old new (Err NoMemory) = Keeps old new
LineIsAnswered E asked F old new other = ⊥

-- what was written of the replies to lines, by the result
abbrev pub LinesArePlayed : Option (List ℕ) → Option (List ℕ) → List (List ℕ)
    → Result (Unit {0}) PlayFault → Type 0
LinesArePlayed old new lines (Ok x) = WritesAll old new lines
LinesArePlayed old new lines (Err CannotWrite) = WritesPart old new lines
LinesArePlayed old new lines (Err NoMemory) = WritesBefore old new lines
LinesArePlayed old new lines other = ⊥
