-- What a line of a script asks for.
use Rattle.std.specs.Prelude.{ℕ, List, [], ◌∷◌, ◌==◌, codes, if◌then◌else◌, nat_le, Some, None}
use Rattle.std.specs.Prelude.{Option, bytes_eq, option_map, option_and_then}
use Rattle.std.specs.List.{join_with_byte}
use Rattle.back_answers.specs.Answers.{answer_of, act_of}
use Rattle.back_answers.specs.Waits.{asked_wait}
use Rattle.back_answers.specs.declared.answer.Act.{Act}
use Rattle.back_answers.specs.declared.answer.Act.TheVariants.{Settle, GiveBack, DropFlush}
use Rattle.back_answers.specs.declared.answer.Answer.{Answer}
use Rattle.back_answers.specs.declared.answer.Answer.TheVariants.{Unknown}
use Rattle.play_script.specs.Pieces.{words}
use Rattle.play_script.specs.Numbers.{number, status}
use Rattle.play_script.specs.PointLines.{PointWords, point_words, name_of}
use Rattle.play_script.specs.declared.pieces.TheConstants.{SPACE}
use Rattle.metric_events.specs.declared.limits.TheConstants.{MAX_TAKEN}

pub data Asked : Type 0 where
  AdmitLine : (sender : List ℕ) (points : List PointWords) → Asked
  TakeLine : (max : ℕ) → Asked
  EndLine : (flush : ℕ) (by : Act) (wait : Option ℕ) → Asked
  ReportLine : Asked
  UndoLine : (batch : ℕ) → Asked
  ConfirmLine : (batch : ℕ) → Asked
  QuarantineLine : (sender : List ℕ) → Asked
  LiftLine : (sender : List ℕ) → Asked
  PostLine : (sender : List ℕ) (body : List ℕ) → Asked
  RoundLine : Asked
  PastLine : Asked
  WireLine : (max : ℕ) → Asked
  BadLine : Asked

-- a number that is the one word
abbrev pub only_number : List (List ℕ) → Option ℕ
only_number (word ∷ []) = number word
only_number rest = None

-- a name that is the one word
abbrev pub only_name : List (List ℕ) → Option (List ℕ)
only_name (word ∷ []) = name_of word
only_name rest = None

-- a line of what was read, where it can be
abbrev pub line_with : {T : Type 0} → (T → Asked) → Option T → Asked
line_with line None = BadLine
line_with line (Some what) = line what

-- at least one series, and not too many
abbrev pub within_taken : ℕ → Option ℕ
within_taken max = if max == 0 then None else (if nat_le max MAX_TAKEN then Some max else None)

-- how many series a flush may take, which is the one word
abbrev pub only_taken : List (List ℕ) → Option ℕ
only_taken rest = option_and_then within_taken (only_number rest)

-- a sender with at least one point
abbrev pub admit_line : Option (List ℕ) → Option (List PointWords) → Asked
admit_line (Some sender) (Some (point ∷ points)) = AdmitLine sender (point ∷ points)
admit_line sender points = BadLine

abbrev pub admit_words : List (List ℕ) → Asked
admit_words [] = BadLine
admit_words (sender ∷ points) = admit_line (name_of sender) (point_words points)

-- a sender, and the rest of the line as it is
abbrev pub post_words : List (List ℕ) → Asked
post_words (sender ∷ word ∷ more) =
    line_with (λ name. PostLine name (join_with_byte SPACE (word ∷ more))) (name_of sender)
post_words rest = BadLine

-- an answer with this status, where it is one, and this value of `Retry-After`
abbrev pub with_status : Option ℕ → Option (List ℕ) → Option Answer
with_status code retry_after = option_map (λ s. answer_of s retry_after) code

-- the back end's answer: unknown, a status, or a status and the value of `Retry-After`
abbrev pub answer_in : List (List ℕ) → Option Answer
answer_in (word ∷ []) =
    if bytes_eq word (codes "none") then Some Unknown else with_status (status word) None
answer_in (word ∷ (b ∷ bs) ∷ []) = with_status (status word) (Some (b ∷ bs))
answer_in rest = None

-- a flush ends as the back end's answer says
abbrev pub answered : Option Answer → ℕ → Asked
answered None flush = BadLine
answered (Some answer) flush = EndLine flush (act_of answer) (asked_wait answer)

-- a flush, and the back end's answer to its request
abbrev pub answer_words : List (List ℕ) → Asked
answer_words [] = BadLine
answer_words (flush ∷ answer) = line_with (answered (answer_in answer)) (number flush)

-- a flush, which ends by an act
abbrev pub end_words : Act → List (List ℕ) → Asked
end_words by rest = line_with (λ flush. EndLine flush by None) (only_number rest)

abbrev pub nothing_more : Asked → List (List ℕ) → Asked
nothing_more line [] = line
nothing_more line (word ∷ more) = BadLine

-- by the first word and those after it: on senders and rounds, and the report
abbrev pub other_command : List ℕ → List (List ℕ) → Asked
other_command word rest =
    if bytes_eq word (codes "hold") then line_with QuarantineLine (only_name rest)
    else (if bytes_eq word (codes "lift") then line_with LiftLine (only_name rest)
    else (if bytes_eq word (codes "report") then nothing_more ReportLine rest
    else (if bytes_eq word (codes "round") then nothing_more RoundLine rest
    else (if bytes_eq word (codes "past") then nothing_more PastLine rest else BadLine))))

-- on flushes, or one of those
abbrev pub flush_command : List ℕ → List (List ℕ) → Asked
flush_command word rest =
    if bytes_eq word (codes "take") then line_with TakeLine (only_taken rest)
    else (if bytes_eq word (codes "wire") then line_with WireLine (only_taken rest)
    else (if bytes_eq word (codes "ok") then end_words Settle rest
    else (if bytes_eq word (codes "back") then end_words GiveBack rest
    else (if bytes_eq word (codes "drop") then end_words DropFlush rest
    else (if bytes_eq word (codes "answer") then answer_words rest
    else other_command word rest)))))

-- on batches that are there, or one of those
abbrev pub batch_command : List ℕ → List (List ℕ) → Asked
batch_command word rest =
    if bytes_eq word (codes "undo") then line_with UndoLine (only_number rest)
    else (if bytes_eq word (codes "confirm") then line_with ConfirmLine (only_number rest)
    else flush_command word rest)

-- on a new batch, or one of those
abbrev pub command_of : List (List ℕ) → Asked
command_of [] = BadLine
command_of (word ∷ rest) =
    if bytes_eq word (codes "admit") then admit_words rest
    else (if bytes_eq word (codes "post") then post_words rest else batch_command word rest)

-- what the line asks for
abbrev pub command : List ℕ → Asked
command line = command_of (words line)
